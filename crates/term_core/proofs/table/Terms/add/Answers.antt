use Rattle.std.proofs.Common.{◌≡◌, List, length, sym, ap, subst, ◌∙◌}
use Rattle.std.specs.List.{list_any}
use Rattle.term_core.specs.declared.term.Term.{Term}
use Rattle.term_core.specs.contracts.term.TermPartialEq.TheImpl.{eq-value}
use Rattle.term_core.specs.Table.{term_value, IsTermAt}
use Rattle.term_core.proofs.Equal.{exact, absent}
use Rattle.term_core.proofs.Tables.{IsAdded, added, one_number, kept_at}
use Rattle.term_core.proofs.table.Terms.add.Goals as goal

is_added : (c : goal.In_ok-at) → IsAdded c.self.inside.terms.keys c.insert_full.new.self.keys
is_added c =
    let e : c.args.self.now ≡ c.self.inside.terms.keys = cc in
    let ts : List Term = c.self.inside.terms.keys in
    let t : Term = c.args.term in
    let P : List Term → Type 0 = λ new. IsAdded ts new in
    let Q : List Term → Type 0 = λ old. IsTermAt old (length old) t in
    subst P (sym c.in_ok-at.ensures.keys) (added ts t (list_any (eq-value.it t) ts) c.self.invariant.0 c.self.invariant.1 (subst Q e c.requires) (absent ts t))

added_to : (c : goal.In_ok-at) → IsAdded c.args.self.now c.insert_full.new.self.keys
added_to c =
    let e : c.args.self.now ≡ c.self.inside.terms.keys = cc in
    let P : List Term → Type 0 = λ old. IsAdded old c.insert_full.new.self.keys in
    subst P (sym e) (is_added c)

pub invariant_of-self-2 : goal.invariant_of-self-2
invariant_of-self-2 c = ((is_added c).table, (is_added c).shared)

pub returns-clause-stored : goal.returns-clause-stored
returns-clause-stored c =
    let h = c.in_ok-at.ensures.stored in
    kept_at c.insert_full.new.self.keys c.in_ok-at.at h.0 c.args.term h.1 (exact c.args.term h.0 h.2)

pub returns-clause-shared : goal.returns-clause-shared
returns-clause-shared c = λ i small e.
    let s = returns-clause-stored c in
    one_number c.insert_full.new.self.keys c.args.term i c.in_ok-at.at (is_added c).shared small s.0 e s.1

pub returns-clause-value : goal.returns-clause-value
returns-clause-value c = λ E V h.
    let s = returns-clause-stored c in
    h.at c.in_ok-at.at s.0 ∙ ap (λ (t : Term). term_value E V c.insert_full.new.self.keys t) s.1

pub returns-clause-kept : goal.returns-clause-kept
returns-clause-kept c = (added_to c).grows

pub returns-clause-others : goal.returns-clause-others
returns-clause-others c = (added_to c).others
