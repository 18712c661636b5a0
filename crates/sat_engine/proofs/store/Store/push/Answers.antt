use Rattle.std.proofs.Common.{rules, ℕ, ◌≡◌, ◌++◌, List, [], ◌∷◌, length, ◌+◌, ◌-◌, ◌∙◌}
use Rattle.std.proofs.lemmas.Result.{err_from_is_err_and}
use Rattle.sat_engine.specs.Look.{InRange}
use Rattle.sat_engine.specs.Tag.{first_tag}
use Rattle.sat_engine.specs.declared.store.Head.{Head}
use Rattle.sat_engine.proofs.Laid.{clauses_of-append}
use Rattle.sat_engine.proofs.Tagged.{IsLaid-append, IsLaid-push, fit_more, clauses_of-laid, pair_plain, set_lead}
use Rattle.sat_engine.proofs.store.Store.push.Goals as goal

pub invariant_of-self-in_err-extend_from_slice-2 :
    goal.invariant_of-self-in_err-extend_from_slice-2
invariant_of-self-in_err-extend_from_slice-2 c =
    rw (c.in_err-extend_from_slice-2.ensures.items, c.in_ok-extend_from_slice.ensures.items)
    (IsLaid-append c.self.inside.words.items (0 ∷ c.in_ok-number.number ∷ []) c.self.inside.heads.items (pair_plain c.in_ok-number.number (search rules)) c.self.invariant)

pub returns-in_err-extend_from_slice-2-clause-err :
    goal.returns-in_err-extend_from_slice-2-clause-err
returns-in_err-extend_from_slice-2-clause-err c =
    let p = err_from_is_err_and c.from_residual-in_err-extend_from_slice-2.result c.from_residual-in_err-extend_from_slice-2.ensures.1 in
    rw (p.1)
    (rw (c.in_err-extend_from_slice-2.ensures.items, c.in_ok-extend_from_slice.ensures.items)
    (clauses_of-append c.self.inside.words.items (0 ∷ c.in_ok-number.number ∷ []) c.self.inside.heads.items c.self.invariant.fit ∙ c.self.view_is))

pub invariant_of-self-in_err-push : goal.invariant_of-self-in_err-push
invariant_of-self-in_err-push c =
    let words : List ℕ = c.self.inside.words.items in
    let heads : List Head = c.self.inside.heads.items in
    let plain : InRange c.args.clause.now first_tag = c.are_plain.ensures (search rules) in
    rw (c.in_err-push.ensures.items, c.in_ok-extend_from_slice-2.ensures.items, c.in_ok-extend_from_slice.ensures.items)
    (IsLaid-append (words ++ 0 ∷ c.in_ok-number.number ∷ []) c.args.clause.now heads plain
    (IsLaid-append words (0 ∷ c.in_ok-number.number ∷ []) heads (pair_plain c.in_ok-number.number (search rules)) c.self.invariant))

pub returns-in_err-push-clause-err : goal.returns-in_err-push-clause-err
returns-in_err-push-clause-err c =
    let words : List ℕ = c.self.inside.words.items in
    let heads : List Head = c.self.inside.heads.items in
    let lead : List ℕ = 0 ∷ c.in_ok-number.number ∷ [] in
    let p = err_from_is_err_and c.from_residual-in_err-push.result c.from_residual-in_err-push.ensures.1 in
    rw (p.1)
    (rw (c.in_err-push.ensures.items, c.in_ok-extend_from_slice-2.ensures.items, c.in_ok-extend_from_slice.ensures.items)
    (clauses_of-append (words ++ lead) c.args.clause.now heads (fit_more words lead heads c.self.invariant.fit) ∙ clauses_of-append words lead heads c.self.invariant.fit ∙ c.self.view_is))

pub invariant_of-self-2 : goal.invariant_of-self-2
invariant_of-self-2 c =
    let words : List ℕ = c.self.inside.words.items in
    let place : c.len-place.result ≡ length words = search rules in
    let plain : InRange c.args.clause.now first_tag = c.are_plain.ensures (search rules) in
    let number : c.in_ok-number.number ≡ length c.self.inside.heads.items = search rules in
    rw (c.in_ok-push.ensures.items, c.in_ok-extend_from_slice-2.ensures.items, c.in_ok-extend_from_slice.ensures.items)
    (rw (set_lead words c.args.clause.now c.in_ok-number.number (first_tag + (c.in_ok-end.end - c.in_ok-start.start)) c.len-place.result place)
    (rw (number)
    (IsLaid-push words c.args.clause.now c.self.inside.heads.items c.in_ok-start.start c.in_ok-end.end (search rules) (search rules) (search rules) plain c.self.invariant)))

pub returns-clause-ok : goal.returns-clause-ok
returns-clause-ok c =
    let words : List ℕ = c.self.inside.words.items in
    let place : c.len-place.result ≡ length words = search rules in
    rw (c.in_ok-push.ensures.items, c.in_ok-extend_from_slice-2.ensures.items, c.in_ok-extend_from_slice.ensures.items, ← c.self.view_is)
    (rw (set_lead words c.args.clause.now c.in_ok-number.number (first_tag + (c.in_ok-end.end - c.in_ok-start.start)) c.len-place.result place)
    (clauses_of-laid words c.args.clause.now c.self.inside.heads.items c.in_ok-start.start c.in_ok-end.end (first_tag + (c.in_ok-end.end - c.in_ok-start.start)) c.in_ok-number.number (search rules) (search rules) c.self.invariant))
