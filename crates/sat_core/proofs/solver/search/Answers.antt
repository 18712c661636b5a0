use Rattle.std.proofs.Common.{ℕ, ◌≡◌, ◌-◌, ◌*◌, ◌/◌, ◌≤◌, List, Bool, length, sym, ap, subst, ◌∙◌, arith}
use Rattle.sat_search.specs.declared.parts.Parts.{Parts}
use Rattle.sat_core.specs.Finding.{IsGrown, is_stopped as stopped_search}
use Rattle.sat_core.specs.Polling.{WasAsked}
use Rattle.sat_core.specs.Solving.{IsAnswer, IsLearnt, IsRoom, is_stopped}
use Rattle.sat_core.proofs.Idle.{IsReady-idle}
use Rattle.sat_core.proofs.Rooms.{IsRoom-wider}
use Rattle.sat_core.proofs.Answering.{IsLearnt-grown, answer_says, stopped_same}
use Rattle.sat_core.proofs.solver.search.Goals as goal

pub find-requires-clause-ready : goal.find-requires-clause-ready
find-requires-clause-ready g c = IsReady-idle c.args.assumed.now c.fit.new.parts c.in_ok-fit.ensures.idle

learnt : (a p q r : Parts) → p.store ≡ a.store → r.store ≡ q.store → length p.trail.truth.items ≤ 2 * (length r.trail.truth.items / 2) → IsGrown p.store q.store (length p.trail.truth.items) → IsLearnt (length r.trail.truth.items / 2) a.store r.store
learnt a p q r e f le g =
    let n : ℕ = length r.trail.truth.items / 2 in
    subst (λ (x : List (List ℕ)). IsLearnt n x r.store) e (subst (λ (x : List (List ℕ)). IsLearnt n p.store x) (sym f) (IsLearnt-grown n (length p.trail.truth.items) p.store q.store le g))

pub returns-clause-learnt : goal.returns-clause-learnt
returns-clause-learnt g c =
    let f = c.in_ok-found.ensures.says in
    let r = c.retreat.new.parts in
    let even = r.trail.ok.even in
    let size = c.retreat.ensures.size in
    let was = f.size in
    learnt c.args.parts.now c.fit.new.parts c.find.new.parts r c.in_ok-fit.ensures.store c.retreat.ensures.store (omega arith) f.grown

pub returns-clause-room : goal.returns-clause-room
returns-clause-room g c =
    let f = c.in_ok-found.ensures.says in
    let a = c.args.parts.now in
    let p = c.fit.new.parts in
    let same : length c.retreat.new.parts.trail.truth.items ≡ length p.trail.truth.items = c.retreat.ensures.size ∙ f.size in
    subst (λ (n : ℕ). IsRoom c.args.assumed.now (length a.trail.truth.items / 2) (n / 2)) (sym same)
    (IsRoom-wider c.args.assumed.now (length a.trail.truth.items) (length p.trail.truth.items) a.trail.ok.even p.trail.ok.even c.in_ok-fit.ensures.wider)

pub returns-clause-answer : goal.returns-clause-answer
returns-clause-answer g c =
    let f = c.in_ok-found.ensures.says in
    let a = c.args.parts.now in
    let p = c.fit.new.parts in
    let q = c.find.new.parts in
    let r = c.retreat.new.parts in
    let n : ℕ = length r.trail.truth.items / 2 in
    let even = r.trail.ok.even in
    let size = c.retreat.ensures.size in
    let was = f.size in
    let l : IsLearnt n a.store r.store = learnt a p q r c.in_ok-fit.ensures.store c.retreat.ensures.store (omega arith) f.grown in
    answer_says n c.args.assumed.now p q a.store r.store c.args.budget c.in_ok-found.found c.in_ok-answer.answer (sym c.in_ok-fit.ensures.store) c.retreat.ensures.store (ap (λ (x : ℕ). x / 2) size) l f
    (subst (λ (x : List Bool). IsAnswer x c.in_ok-found.found c.in_ok-answer.answer) c.deref.ensures.value c.in_ok-answer.ensures)

pub returns-clause-asked : goal.returns-clause-asked
returns-clause-asked g c =
    let e = c.in_ok-found.ensures in
    let a = c.args.parts.now in
    let p = c.fit.new.parts in
    let q = c.find.new.parts in
    let r = c.retreat.new.parts in
    let before = g.P.Poll.asks c.args.poll.now in
    let many : length q.store - length p.store ≡ length r.store - length a.store = omega (arith, ap length c.in_ok-fit.ensures.store, ap length c.retreat.ensures.store) in
    let same : stopped_search c.in_ok-found.found ≡ is_stopped c.in_ok-answer.answer = stopped_same q.trail.truth.items c.in_ok-found.found c.in_ok-answer.answer (subst (λ (x : List Bool). IsAnswer x c.in_ok-found.found c.in_ok-answer.answer) c.deref.ensures.value c.in_ok-answer.ensures) in
    subst (λ (b : Bool). WasAsked g.P.Poll.asks g.P.Poll.yeses c.args.poll.now c.find.new.poll (length r.store - length a.store) b) same
    (subst (λ (n : ℕ). WasAsked g.P.Poll.asks g.P.Poll.yeses c.args.poll.now c.find.new.poll n (stopped_search c.in_ok-found.found)) many e.asked)
