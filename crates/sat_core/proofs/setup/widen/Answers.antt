use Rattle.std.proofs.Common.{◌≡◌, ◌+◌, ◌++◌, List, [], ◌∷◌, Bool, false, length, sym, ap, subst, ◌∙◌, arith}
use Rattle.std.proofs.lemmas.List.{length-append, length_push}
use Rattle.sat_engine.specs.declared.trail.SetLiteral.{SetLiteral}
use Rattle.sat_engine.specs.Trail.{IsSet}
use Rattle.sat_index.specs.declared.index.Occurrence.{Occurrence}
use Rattle.sat_index.specs.Listed.{IsIndexed}
use Rattle.sat_search.specs.State.{IsState}
use Rattle.sat_core.proofs.Idle.{IsIndexed-wider, unset_wider, unmarked_wider}
use Rattle.sat_engine.proofs.Ranges.{AreInRange-wider}
use Rattle.sat_core.proofs.setup.widen.Goals as goal

pub returns-clause-idle : goal.returns-clause-idle
returns-clause-idle c =
    let p = c.args.parts.now in
    let r = c.requires.idle.ready in
    let t = c.widen-3.new.self in
    let steps : t.steps.items ≡ p.trail.steps.items = c.widen-3.ensures.steps in
    let size : length t.truth.items ≡ length p.trail.truth.items + 2 = c.in_ok-widen-3.ensures.size in
    let once : c.grow.new.self ≡ p.index ++ [] ∷ [] = c.in_ok-grow.ensures in
    let twice : c.grow-2.new.self ≡ p.index ++ [] ∷ [] ++ [] ∷ [] = c.in_ok-grow-2.ensures ∙ ap (λ (x : List (List Occurrence)). x ++ [] ∷ []) once in
    let marks : c.push.new.self.items ≡ p.marks.items ++ false ∷ [] = c.in_ok-push.ensures.items in
    let flags : c.extend_from_slice.new.self.items ≡ p.flags.items ++ false ∷ false ∷ [] = c.in_ok-extend_from_slice.ensures.items in
    let lists = r.lists in let flagged = r.flags in let marked = r.marks in let idle = c.requires.idle.idle in
    record {
      ready = record {
        state = subst (λ (x : List SetLiteral). IsState p.store [] x p.start) (sym steps) r.state;
        range = AreInRange-wider p.store (length p.trail.truth.items) (length t.truth.items) (omega arith) r.range;
        few = r.few;
        indexed = subst (λ (x : List (List Occurrence)). IsIndexed p.store x) (sym twice) (IsIndexed-wider p.store (p.index ++ [] ∷ []) (IsIndexed-wider p.store p.index r.indexed));
        lists = omega (arith, ap length twice, length_push (p.index ++ [] ∷ []) [], length_push p.index []);
        flags = omega (arith, ap length flags, length-append p.flags.items (false ∷ false ∷ []));
        unset = λ m h. unset_wider p.flags.items r.unset m (subst (λ (x : List Bool). IsSet x m) flags h);
        marks = omega (arith, ap length marks, length_push p.marks.items false);
        clean = λ m h. unmarked_wider p.marks.items r.clean m (subst (λ (x : List Bool). IsSet x m) marks h);
        small = omega (arith, c.if-len-ge-MOST.false, c.len.ensures);
      };
      idle = ap length steps ∙ idle;
    }
