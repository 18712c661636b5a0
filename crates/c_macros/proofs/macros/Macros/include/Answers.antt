use Rattle.std.proofs.Common.{◌≡◌, map, ◌∙◌, sym, ap, subst}
use Rattle.c_tokens.specs.Constants.{number_of}
use Rattle.c_scan.specs.Numbers.{number_view}
use Rattle.c_macros.specs.HeaderRows.{header_view}
use Rattle.c_macros.specs.Chains.{IsLinked}
use Rattle.c_macros.specs.Circles.{IsMarked}
use Rattle.c_macros.specs.Tables.{macros_view}
use Rattle.c_macros.proofs.Links.{included_defined}
use Rattle.c_macros.proofs.macros.Macros.include.Goals as goal

pub returns-clause-known : goal.returns-clause-known
returns-clause-known c =
    let macros = macros_view c.args.self.now in
    let model : c.mark.new.self.model ≡ c.args.self.now.model = c.mark.ensures.model in
    let defined : (macros_view c.mark.new.self).defined ≡ macros.defined = ap (λ n. n.defined) c.mark.ensures.macros ∙ included_defined macros (header_view c.args.header) in
    record {
      given_are = c.in_ok-self.ensures;
      linked = subst (λ E. IsLinked E c.mark.new.self.ahead.items)
          (sym defined)
          (subst (λ a. IsLinked macros.defined a.items) (sym c.mark.ensures.ahead) c.requires.linked);
      marked = subst (λ E. IsMarked E c.mark.new.self.returns.items)
          (sym defined)
          (subst (λ a. IsMarked macros.defined a.items) (sym c.mark.ensures.returns) c.requires.marked);
      numbered = ap (λ n. map number_view n.items) c.mark.ensures.numbers ∙ c.requires.numbered
          ∙ sym (λ i. map (λ row. number_of (model i) row.1) (defined i));
    }
