use Rattle.std.proofs.Common.{ℕ, ◌≡◌, ◌+◌, ◌-◌, ◌^◌, ◌<◌, ◌≤◌, ◌++◌, List, [], ◌∷◌, Bool, if◌then◌else◌, length, drop, min, refl, sym, ap, subst, ◌∙◌, arith}
use Rattle.std.proofs.lemmas.List.{length_push}
use Rattle.sat_clause.specs.Literals.{AreBelow, ClausesAreBelow, MeetsAll, AreTrue, truths}
use Rattle.sat_clause.specs.Propagation.{Refuted, Spent}
use Rattle.sat_core.specs.declared.solver.Answer.{Answer}
use Rattle.sat_core.specs.Solving.{AnswerSays, IsLearnt, is_stopped as stopped_search}
use Rattle.sat_core.specs.Counts.{raised, raised_by}
use Rattle.proof_checker.specs.Checking.{IsLearnt as IsLearntLog}
use Rattle.sat_query.specs.Asking.{NoneMeets, IsShort, is_stopped}
use Rattle.sat_query.specs.declared.asking.Asked.{Asked}
use Rattle.sat_query.specs.declared.asking.Asked.TheVariants.{Sat, Unsat, Spent as SpentWith, Stopped}
use Rattle.sat_query.proofs.Logs.{met_front, below_front, log_length, refutation, learnt_log, spent}
use Rattle.sat_query.proofs.asking.search_with.Goals as goal

-- what was learnt is the whole log of a solver that had learnt nothing
learnt : (F G L M : List (List ℕ)) → L ≡ M ++ drop (length F) G → M ≡ [] → L ≡ drop (length F) G
learnt F G L M l none = l ∙ ap (λ (x : List (List ℕ)). x ++ drop (length F) G) none

none_asked : (n : ℕ) (asked : List ℕ) → asked ≡ [] → AreBelow n asked
none_asked n asked e k d lt = absurd (omega (arith, ap length e))

spent_with : (n m : ℕ) (F G L A : List (List ℕ)) (budget : ℕ) → IsLearnt n F G → L ≡ drop (length F) G → A ≡ L → length G ≡ length F + budget → IsLearntLog F A budget × (n ≤ m → Spent m F budget A)
spent_with n m F G L A budget l log is full =
    let size = log_length n F G L l log in
    let many : length L ≡ budget = omega arith in (
      subst (λ (x : List (List ℕ)). IsLearntLog F x budget) (sym is) (learnt_log n F G L l log budget many),
      λ le. subst (λ (x : List (List ℕ)). Spent m F budget x) (sym is) (spent n F G L l log m budget le many),
    )

-- Where G has the clauses of F and what was learnt of them, L, and A is that log with the empty clause at its end, A is a
-- refutation of F that is no longer than the budget lets it be; it is refuted under what was asked, which is nothing.
short : (n m : ℕ) (F G L A : List (List ℕ)) (asked : List ℕ) (budget : ℕ) → IsLearnt n F G → L ≡ drop (length F) G → A ≡ L ++ [] ∷ [] → asked ≡ [] → (0 < budget → length G ≤ length F + budget) → Refuted G asked → (ClausesAreBelow m F → n ≤ m) → IsShort m F budget A
short n m F G L A asked budget l log is none within r over =
    let size = log_length n F G L l log in
    subst (λ (x : List (List ℕ)). IsShort m F budget x) (sym is) (record {
      refutes = refutation n F G L l log (subst (λ (x : List ℕ). Refuted G x) none r);
      within = λ b. omega (arith, within b, length_push L []);
      before = L;
      ends = refl;
      learnt = learnt_log n F G L l log (length L) refl;
      new = λ all. spent n F G L l log m (length L) (over all) refl;
    })

none_meets : (F : List (List ℕ)) (asked : List ℕ) → asked ≡ [] → ((A : ℕ → Bool) → MeetsAll A F → AreTrue A asked → ⊥) → NoneMeets F
none_meets F asked none off A m = off A m (subst (AreTrue A) (sym none) refl)

pub returns-in-Sat-clause-answer : goal.returns-in-Sat-clause-answer
returns-in-Sat-clause-answer g c = λ n.
    let e = c.in_ok-found.ensures in
    let s = c.args.solver.now in
    let t = c.solve-2.new.self in
    let says = subst (λ (x : Answer). AnswerSays t.vars s.clauses t.clauses c.new.result c.args.budget x) c.in-Sat.is e.answer in
    record {
      over = subst (λ (n : ℕ). ClausesAreBelow n s.clauses) (sym says.size) (below_front t.vars s.clauses t.clauses e.learns.learnt t.vars says.over);
      clauses = met_front t.vars s.clauses t.clauses e.learns.learnt (truths c.in-Sat.found) says.clauses;
    }

pub returns-in-Unsat-clause-answer : goal.returns-in-Unsat-clause-answer
returns-in-Unsat-clause-answer g c = λ n.
    let e = c.in_ok-found.ensures in
    let s = c.args.solver.now in
    let t = c.solve-2.new.self in
    let says = subst (λ (x : Answer). AnswerSays t.vars s.clauses t.clauses c.new.result c.args.budget x) c.in-Unsat.is e.answer in
    let is : c.in_ok-log-in-Unsat.log ≡ t.log ++ [] ∷ [] = c.in_ok-log-in-Unsat.ensures ∙ ap (λ (x : List (List ℕ)). x ++ [] ∷ []) c.take_log.ensures.log in (
      none_meets s.clauses c.new.result c.new.ensures says.1,
      short t.vars n s.clauses t.clauses t.log c.in_ok-log-in-Unsat.log c.new.result c.args.budget e.learns.learnt (learnt s.clauses t.clauses t.log s.log e.learns.log c.requires.log) is c.new.ensures e.learns.within says.0 (λ all. e.vars.least n (c.requires.vars n all) (none_asked n c.new.result c.new.ensures)),
    )

pub returns-in-Spent-clause-answer : goal.returns-in-Spent-clause-answer
returns-in-Spent-clause-answer g c = λ n.
    let e = c.in_ok-found.ensures in
    let s = c.args.solver.now in
    let t = c.solve-2.new.self in
    let says = subst (λ (x : Answer). AnswerSays t.vars s.clauses t.clauses c.new.result c.args.budget x) c.in-Spent.is e.answer in
    let w = spent_with t.vars n s.clauses t.clauses t.log c.take_log-in-Spent.result c.args.budget e.learns.learnt (learnt s.clauses t.clauses t.log s.log e.learns.log c.requires.log) c.take_log-in-Spent.ensures.log says.1 in
    record {
      limited = says.0;
      learnt = w.0;
      spent = λ all. w.1 (e.vars.least n (c.requires.vars n all) (none_asked n c.new.result c.new.ensures));
    }

-- as many asks as clauses of the log were learnt, and a yes exactly where the answer says so
asked_for : (n : ℕ) (F G L : List (List ℕ)) (many : ℕ) (answer : Answer) (asked : Asked) (before now had said : ℕ) → IsLearnt n F G → L ≡ drop (length F) G → many ≤ length L → stopped_search answer ≡ is_stopped asked
    → raised_by (length G - length F) before ≤ now → said ≡ (if stopped_search answer then raised had else had) → (raised_by many before ≤ now) × (said ≡ (if is_stopped asked then raised had else had))
asked_for n F G L many answer asked before now had said l log few same h y =
    let size = log_length n F G L l log in (
      no_less (length G - length F) many before now (2 ^ 64 - 1) (omega arith) h,
      subst (λ (b : Bool). said ≡ (if b then raised had else had)) same y,
    )
  where
    no_less : (many few before now last : ℕ) → few ≤ many → min (before + many) last ≤ now → min (before + few) last ≤ now
    no_less many few before now last le h = omega arith

pub returns-in-Sat-clause-asked : goal.returns-in-Sat-clause-asked
returns-in-Sat-clause-asked g c =
    let e = c.in_ok-found.ensures in
    let s = c.args.solver.now in
    let t = c.solve-2.new.self in
    let w = asked_for t.vars s.clauses t.clauses t.log 0 c.in_ok-found.field-0 (Sat c.in-Sat.found) (g.P.Poll.asks c.args.poll.now) (g.P.Poll.asks c.solve-2.new.poll) (g.P.Poll.yeses c.args.poll.now) (g.P.Poll.yeses c.solve-2.new.poll) e.learns.learnt (learnt s.clauses t.clauses t.log s.log e.learns.log c.requires.log) (omega arith) (ap stopped_search c.in-Sat.is) e.asked.asked e.asked.said_yes in
    record { asked = w.0; said_yes = w.1 }

pub returns-in-Unsat-clause-asked : goal.returns-in-Unsat-clause-asked
returns-in-Unsat-clause-asked g c =
    let e = c.in_ok-found.ensures in
    let s = c.args.solver.now in
    let t = c.solve-2.new.self in
    let is : c.in_ok-log-in-Unsat.log ≡ t.log ++ [] ∷ [] = c.in_ok-log-in-Unsat.ensures ∙ ap (λ (x : List (List ℕ)). x ++ [] ∷ []) c.take_log.ensures.log in
    let w = asked_for t.vars s.clauses t.clauses t.log (length c.in_ok-log-in-Unsat.log - 1) c.in_ok-found.field-0 (Unsat c.in_ok-log-in-Unsat.log) (g.P.Poll.asks c.args.poll.now) (g.P.Poll.asks c.solve-2.new.poll) (g.P.Poll.yeses c.args.poll.now) (g.P.Poll.yeses c.solve-2.new.poll) e.learns.learnt (learnt s.clauses t.clauses t.log s.log e.learns.log c.requires.log) (omega (arith, ap length is, length_push t.log [])) (ap stopped_search c.in-Unsat.is) e.asked.asked e.asked.said_yes in
    record { asked = w.0; said_yes = w.1 }

pub returns-in-Spent-clause-asked : goal.returns-in-Spent-clause-asked
returns-in-Spent-clause-asked g c =
    let e = c.in_ok-found.ensures in
    let s = c.args.solver.now in
    let t = c.solve-2.new.self in
    let w = asked_for t.vars s.clauses t.clauses t.log (length c.take_log-in-Spent.result) c.in_ok-found.field-0 (SpentWith c.take_log-in-Spent.result) (g.P.Poll.asks c.args.poll.now) (g.P.Poll.asks c.solve-2.new.poll) (g.P.Poll.yeses c.args.poll.now) (g.P.Poll.yeses c.solve-2.new.poll) e.learns.learnt (learnt s.clauses t.clauses t.log s.log e.learns.log c.requires.log) (omega (arith, ap length c.take_log-in-Spent.ensures.log)) (ap stopped_search c.in-Spent.is) e.asked.asked e.asked.said_yes in
    record { asked = w.0; said_yes = w.1 }

pub returns-clause-asked : goal.returns-clause-asked
returns-clause-asked g c =
    let e = c.in_ok-found.ensures in
    let s = c.args.solver.now in
    let t = c.solve-2.new.self in
    let w = asked_for t.vars s.clauses t.clauses t.log 0 c.in_ok-found.field-0 Stopped (g.P.Poll.asks c.args.poll.now) (g.P.Poll.asks c.solve-2.new.poll) (g.P.Poll.yeses c.args.poll.now) (g.P.Poll.yeses c.solve-2.new.poll) e.learns.learnt (learnt s.clauses t.clauses t.log s.log e.learns.log c.requires.log) (omega arith) (ap stopped_search c.in-Stopped.is) e.asked.asked e.asked.said_yes in
    record { asked = w.0; said_yes = w.1 }
