use Rattle.std.proofs.Common.{◌≡◌, ◌∙◌, sym, ap, subst, refl, rules, List, ℕ, length, []}
use Rattle.std.specs.Prelude.{slice_get}
use Rattle.std.proofs.Common.{Some}
use Rattle.std.specs.declared.alloc.Global.{Global}
use Rattle.std.proofs.lemmas.Option.{slice_get_read}
use Rattle.unwind_log.specs.declared.cells.Place.{Place}
use Rattle.unwind_log.specs.Seats.{Fits}
use Rattle.unwind_log.proofs.PlaceLists.{fresh_push, longer}
use Rattle.unwind_log.proofs.cells.Unwinding.seat.Goals as goal

pub loop-cell-preserved : goal.loop-cell-preserved
loop-cell-preserved c = let i = c.loop-cell.invariant in (
  ap length c.in_ok-push.ensures.ok ∙ longer c.loop-cell.places _ c.loop-cell.cell-index i.0,
  subst (λ (ps : List Place). (j : ℕ) (d : Global × ℕ) (q : Place) → slice_get c.as_slice-cell-items.result.now j ≡ Some d → slice_get ps j ≡ Some q → Fits c.args.self.now.template [] j d q)
      (sym c.in_ok-push.ensures.ok)
      (fresh_push c.args.self.now.template c.as_slice-cell-items.result.now c.loop-cell.places c.loop-cell.cell-index c.cell-item.result _ i.0 (slice_get_read c.as_slice-cell-items.result.now (length c.as_slice-cell-items.result.now) c.loop-cell.cell-index c.cell-item.result refl (search rules) (search rules)) c.note.ensures.0 refl i.1),
)

pub returns : goal.returns
returns c = let i = c.loop-cell.invariant in record { seat = record { long = search rules; fit = λ j cell place ec ep. subst (λ (ks : List ℕ). Fits c.args.self.now.template ks j cell place) (sym c.new.ensures) (i.1 j cell place (subst (λ (xs : List (Global × ℕ)). slice_get xs j ≡ Some cell) (sym c.as_slice-cell-items.ensures.value) ec) (subst (λ (ps : List Place). slice_get ps j ≡ Some place) c.into_vec.ensures ep)) }; known = search rules; built = refl }
