use Rattle.std.proofs.Common.{◌<◌, ℕ, List, subst, refl, arith}
use Rattle.std.specs.List.{All}
use Rattle.std.proofs.lemmas.List.{take_all}
use Rattle.std.proofs.lemmas.List.Elements.{All-more}
use Rattle.sat_clause.specs.Literals.{variable_of, AreBelow}
use Rattle.kv_clause.specs.declared.template.Site.{Site}
use Rattle.kv_clause.proofs.below.sites_are_below.Goals as goal

abbrev AllTaken : ℕ → List Site → Type 0
AllTaken n sites = All (λ s. variable_of s.taken < n) sites

abbrev AllBits : ℕ → List Site → Type 0
AllBits n sites = All (λ s. AreBelow n s.bits) sites

pub loop-site-preserved : goal.loop-site-preserved
loop-site-preserved c =
    let items : List Site = c.as_slice-site-items.result.now in
    let taken : variable_of c.site-item.result.taken < c.args.n = omega (arith, c.variable.ensures) in
    let bits : AreBelow c.args.n c.site-item.result.bits = c.are_below.ensures.0 c.if-not-are_below.false in (
      All-more (λ (s : Site). variable_of s.taken < c.args.n) items c.loop-site.site-index c.site-item.result c.loop-site-test.true c.loop-site.invariant.0
          (subst (λ (s : Site). variable_of s.taken < c.args.n) c.site-item.is taken),
      All-more (λ (s : Site). AreBelow c.args.n s.bits) items c.loop-site.site-index c.site-item.result c.loop-site-test.true c.loop-site.invariant.1
          (subst (λ (s : Site). AreBelow c.args.n s.bits) c.site-item.is bits),
    )

pub returns : goal.returns
returns c =
    let items : List Site = c.as_slice-site-items.result.now in
    let all = take_all c.loop-site.site-index items c.loop-site-test.false in
    let taken = subst (AllTaken c.args.n) all c.loop-site.invariant.0 in
    let bits = subst (AllBits c.args.n) all c.loop-site.invariant.1 in
    ((λ _. (subst (AllTaken c.args.n) c.as_slice-site-items.ensures taken, subst (AllBits c.args.n) c.as_slice-site-items.ensures bits)), (λ _. refl))
