use Rattle.std.proofs.Common.{◌≡◌, ◌∙◌, sym, ap, subst, rules, false}
use Rattle.std.specs.Prelude.{IsSomeAnd}
use Rattle.kv_clause.specs.Blocks.{block_at}
use Rattle.kv_clause.specs.declared.block.Block.{Block}
use Rattle.unwind_log.specs.Seats.{has}
use Rattle.unwind_log.proofs.PlaceLists.{has-push, has-push_other, known_new}
use Rattle.unwind_log.proofs.cells.Unwinding.meet_place.Goals as goal

pub returns-then-is_block-clause-known : goal.returns-then-is_block-clause-known
returns-then-is_block-clause-known c = let unknown : has c.args.i c.args.known.now ≡ false = search rules in c.in_ok-push.ensures.ok ∙ sym (known_new c.args.i c.args.known.now unknown)

pub returns-then-is_block-clause-others : goal.returns-then-is_block-clause-others
returns-then-is_block-clause-others c j apart = ap (has j) c.in_ok-push.ensures.ok ∙ has-push_other j c.args.i c.args.known.now apart

pub returns-then-is_block-clause-place : goal.returns-then-is_block-clause-place
returns-then-is_block-clause-place c = record {
  cell_is = c.find.ensures.cell ∙ c.requires.place.cell_is;
  met_is = sym (ap (has c.args.i) c.in_ok-push.ensures.ok ∙ has-push c.args.i c.args.known.now);
  value_is = λ _. subst (λ k. IsSomeAnd k (λ (b : Block). b ≡ block_at c.args.self.now.template c.args.i)) (sym c.in_ok-block.ensures.value) (c.if-is_block.ensures.0 (search rules));
}

pub returns-clause-known : goal.returns-clause-known
returns-clause-known c = let unknown : has c.args.i c.args.known.now ≡ false = search rules in c.in_ok-push-2.ensures.ok ∙ sym (known_new c.args.i c.args.known.now unknown)

pub returns-clause-others : goal.returns-clause-others
returns-clause-others c j apart = ap (has j) c.in_ok-push-2.ensures.ok ∙ has-push_other j c.args.i c.args.known.now apart

pub returns-clause-place : goal.returns-clause-place
returns-clause-place c = record {
  cell_is = c.find.ensures.cell ∙ c.requires.place.cell_is;
  met_is = sym (ap (has c.args.i) c.in_ok-push-2.ensures.ok ∙ has-push c.args.i c.args.known.now);
  value_is = λ _. c.in_ok-own.ensures.block;
}
