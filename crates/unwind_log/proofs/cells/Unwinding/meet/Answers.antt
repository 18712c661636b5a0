use Rattle.std.proofs.Common.{◌≡◌, sym, subst, refl, rules, arith}
use Rattle.std.specs.Prelude.{IsSomeAnd, MatchOption, IfOk, Option, length}
use Rattle.std.proofs.lemmas.Option.{slice_get_read}
use Rattle.kv_clause.specs.Blocks.{block_at}
use Rattle.kv_clause.specs.declared.block.Block.{Block}
use Rattle.unwind_log.specs.Seats.{Fits}
use Rattle.unwind_log.proofs.PlaceLists.{changed, own_set, same_cell}
use Rattle.unwind_log.proofs.cells.Unwinding.meet.Goals as goal

pub meet_place-requires-clause-place : goal.meet_place-requires-clause-place
meet_place-requires-clause-place c = c.requires.seat.fit c.args.i _ _
    (slice_get_read c.args.self.now.cells.items (length c.args.self.now.cells.items) c.args.i c.index.result.now refl c.requires.within (search rules))
    (slice_get_read c.args.seat.now.places.items (length c.args.self.now.cells.items) c.args.i c.index_mut.result.now (sym c.requires.seat.long) c.requires.within (search rules))

pub returns-clause-met : goal.returns-clause-met
returns-clause-met c = (
  changed c.args.self.now c.args.seat.now _ c.args.i c.meet_place.new.place c.requires.seat refl c.meet_place.ensures.others
      (λ cell at. subst (λ x. Fits c.args.self.now.template c.meet_place.new.known c.args.i x c.meet_place.new.place)
      (same_cell c.args.self.now.cells.items c.args.i c.index.result.now cell (slice_get_read c.args.self.now.cells.items (length c.args.self.now.cells.items) c.args.i c.index.result.now refl c.requires.within (search rules)) at)
      c.meet_place.ensures.place),
  c.meet_place.ensures.known,
  c.meet_place.ensures.unknown,
  c.meet_place.ensures.built,
  c.meet_place.ensures.least,
  c.meet_place.ensures.most,
)

pub returns-clause-value : goal.returns-clause-value
returns-clause-value c = subst (λ (x : Option Block). IfOk c.meet_place.result (λ o. MatchOption o (IsSomeAnd x (λ b. b ≡ block_at c.args.self.now.template c.args.i)) (λ b. b.now ≡ block_at c.args.self.now.template c.args.i)))
    (sym (own_set c.args.seat.now.places.items c.args.i c.meet_place.new.place (let e = c.requires.seat.long in let w = c.requires.within in omega arith))) c.meet_place.ensures.value
