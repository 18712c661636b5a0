use Rattle.std.proofs.Common.{◌≡◌, ◌==◌, not, Bool, length, ap, sym, subst, ◌∙◌, ◌*ℤ◌, IsTrue, ◌↔◌}
use Rattle.kv_num.specs.Shape.{wrap_at, InShape}
use Rattle.sat_clause.specs.Literals.{is_true}
use Rattle.word_sums.specs.Words.{number, word_value}
use Rattle.word_sums.proofs.Growth.{Grows-trans}
use Rattle.word_products.proofs.Signed.{plain_value, plain_fits}
use Rattle.word_products.proofs.products.mul.Goals as goal

pub returns-in_err-exact-clause-grows : goal.returns-in_err-exact-clause-grows
returns-in_err-exact-clause-grows c = c.in_err-exact.ensures.grows

pub returns-in_err-over-clause-grows : goal.returns-in_err-over-clause-grows
returns-in_err-over-clause-grows c = Grows-trans _ _ _ c.in_ok-exact.ensures.grows c.in_err-over.ensures.grows

pub returns-clause-grows : goal.returns-clause-grows
returns-clause-grows c = Grows-trans _ _ _ c.in_ok-exact.ensures.grows c.in_ok-over.ensures.grows

pub returns-clause-value : goal.returns-clause-value
returns-clause-value c = λ A h.
    let a = c.args.a.now in
    let b = c.args.b.now in
    let low = c.in_ok-exact.exact.low in
    let ll = c.in_ok-exact.ensures.low_len ∙ ap length c.as_slice-3.ensures in
    let whole = rw (c.as_slice-2.ensures, c.as_slice-3.ensures) at (c.in_ok-exact.ensures.value A (c.in_ok-over.ensures.grows.kept A h)) in
    let P : Bool → Type 0 = λ s. word_value A s low ≡ wrap_at (length a) s (word_value A s a *ℤ word_value A s b) in
    subst P (sym c.if-signed.false) (plain_value A a b low c.in_ok-exact.exact.high c.requires.same ll whole)

pub returns-clause-fits : goal.returns-clause-fits
returns-clause-fits c = λ A h.
    let a = c.args.a.now in
    let b = c.args.b.now in
    let ll = c.in_ok-exact.ensures.low_len ∙ ap length c.as_slice-3.ensures in
    let whole = rw (c.as_slice-2.ensures, c.as_slice-3.ensures) at (c.in_ok-exact.ensures.value A (c.in_ok-over.ensures.grows.kept A h)) in
    let over = c.in_ok-over.ensures.value A h ∙ ap (λ z. not (number A z == 0)) c.as_slice-4.ensures in
    let P : Bool → Type 0 = λ s. IsTrue (is_true A c.complement.result) ↔ InShape (length a) s (word_value A s a *ℤ word_value A s b) in
    subst P (sym c.if-signed.false) (plain_fits A a b c.in_ok-exact.exact.low c.in_ok-exact.exact.high c.requires.same ll whole c.in_ok-over.over c.complement.result over c.complement.ensures)
