use Rattle.std.proofs.Common.{ℕ, ◌≡◌, ◌++◌, List, subst, sym, ap, ◌∙◌, arith, rules}
use Rattle.sat_clause.specs.Literals.{ClausesAreBelow}
use Rattle.kv_clause.specs.declared.template.Template.{Template}
use Rattle.kv_clause.specs.declared.block.Block.{Block}
use Rattle.kv_clause.specs.Blocks.{block_of}
use Rattle.sat_query.specs.KeepingBlocks.{HoldsBlocks}
use Rattle.sat_query.proofs.Blockwise.{HoldsBlocks-more}
use Rattle.sat_query.proofs.grown.add_blocks.Goals as goal

pub loop-i-preserved : goal.loop-i-preserved
loop-i-preserved g c =
    let T : Template = g.B.Blocks.of c.args.blocks.now in
    let i : ℕ = c.loop-i.i in
    let h = c.loop-i.invariant in
    let e = c.in_ok-add_all.ensures in
    let block : List (List ℕ) = c.in_ok-block.block.now.clauses in
    let is : block ≡ block_of T i = ap (λ (b : Block). b.clauses) c.in_ok-block.ensures.value ∙ ap (λ (t : Template). block_of t i) h.template in
    record {
      template = search rules;
      count = search rules;
      held = search rules;
      ready = search rules;
      holds = HoldsBlocks-more T c.args._from_start i c.loop-i.kept c.add_all.new.kept h.holds (e.clauses ∙ ap (λ (x : List (List ℕ)). c.loop-i.kept.clauses ++ x) is) e.log (λ n le below. e.vars n le (subst (ClausesAreBelow n) (sym is) below));
      log = e.log ∙ h.log;
    }

pub returns-clause-holds : goal.returns-clause-holds
returns-clause-holds g c =
    let T : Template = g.B.Blocks.of c.args.blocks.now in
    let order = c.requires.order in
    let last = c.loop-i.auto.i-end order in
    let end : c.loop-i.i ≡ c.args.to = omega (arith, c.loop-i-test.false) in
    subst (λ (k : ℕ). HoldsBlocks T c.args._from_start k c.loop-i.kept) end c.loop-i.invariant.holds
