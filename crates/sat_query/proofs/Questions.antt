-- What the answers of a kept solver over blocks say of a query.
use Rattle.std.proofs.Common.{ℕ, ◌≡◌, ◌+◌, ◌-◌, ◌<◌, ◌≤◌, ◌++◌, List, length, drop, Bool, sym, ap, subst, ◌∙◌, arith}
use Rattle.std.proofs.lemmas.List.{append-nil}
use Rattle.sat_clause.specs.Literals.{AreBelow, MeetsAll, AreTrue, truths}
use Rattle.sat_clause.specs.Propagation.{Refuted, Spent}
use Rattle.sat_clause.proofs.Truths.{met_left, all_local}
use Rattle.sat_clause.proofs.Propagation.{Refuted-more}
use Rattle.sat_clause.proofs.Sets.{MeetsAll-fewer, log_met}
use Rattle.kv_clause.specs.declared.template.Template.{Template}
use Rattle.kv_clause.specs.declared.query.Query.{Query}
use Rattle.kv_clause.specs.declared.query.Query.TheVariants.{Base, Forward, Step, First, Induct, Closing}
use Rattle.kv_clause.specs.Queries.{blocks_of, blocks_in, vars_of, fixed, asked, query}
use Rattle.kv_clause.proofs.Queries.{query_parts, query-from_parts}
use Rattle.kv_clause.proofs.Ranges.{below_more, vars_more, asked_below, query_below}
use Rattle.sat_core.specs.Held.{Held}
use Rattle.sat_core.specs.Solving.{IsLearnt, IsMet, IsRoom, Learns}
use Rattle.sat_query.specs.declared.kept.KeptAnswer.{KeptAnswer}
use Rattle.sat_query.specs.declared.kept.KeptAnswer.TheVariants.{Sat, Unsat, Spent as SpentWith, Stopped}
use Rattle.sat_query.specs.Keeping.{IsRefuted, KeptSays, is_stopped}
use Rattle.sat_query.specs.KeepingBlocks.{BeginsAt, held_of, HoldsBlocks, IsFilled, BlocksSay, LearnsOver, MeetsQuery, RefutesQuery, SpendsQuery}
use Rattle.sat_query.proofs.Blockwise.{same_after, grown, learnt_after, Spent-learnt}

-- the fixed clauses of a query are those that the solver holds of the template
pub fixed_is : (T : Template) (f : Bool) (q : Query) → BeginsAt f q → fixed T q ≡ held_of T f (blocks_in q)
fixed_is T f (Base k) e = append-nil (T.start ++ blocks_of T k) ∙ ap (λ (b : Bool). held_of T b k) (sym e)
fixed_is T f (Forward k) e = append-nil (T.start ++ blocks_of T k) ∙ ap (λ (b : Bool). held_of T b k) (sym e)
fixed_is T f (Step k under) e = append-nil (T.head ++ blocks_of T k) ∙ ap (λ (b : Bool). held_of T b k) (sym e)
fixed_is T f (First round bs) e = absurd e
fixed_is T f (Induct round bs) e = absurd e
fixed_is T f (Closing k under) e = append-nil (T.head ++ blocks_of T k) ∙ ap (λ (b : Bool). held_of T b k) (sym e)

-- a question to a solver that holds the query's blocks
module _ (T : Template) (f : Bool) (q : Query) (begins : BeginsAt f q) (some : 1 ≤ blocks_in q) (old new : Held) (ls : List ℕ) (budget : ℕ) where
  module _ (h : HoldsBlocks T f (blocks_in q) old) (l : Learns old new budget) (room : IsRoom ls old.vars new.vars) (is : ls ≡ asked T q) where
    abbrev F : List (List ℕ)
    F = held_of T f (blocks_in q)

    pub vars_after : (n : ℕ) → 1 ≤ n → blocks_in q ≤ n → new.vars ≤ vars_of T n
    vars_after n one le = room.least (vars_of T n) (h.vars n one le)
        (subst (AreBelow (vars_of T n)) (sym is) (below_more (vars_of T (blocks_in q)) (vars_of T n) (asked T q) (vars_more T (blocks_in q) n le) (asked_below T q some)))

    learnt_of : (n : ℕ) → 1 ≤ n → blocks_in q ≤ n → IsLearnt (vars_of T n) (F ++ old.log) (F ++ new.log)
    learnt_of n one le = learnt_after F old.clauses new.clauses old.log new.log h.clauses l.log new.vars l.learnt (vars_of T n) (vars_after n one le)

    pub log_longer : length new.log ≡ length old.log + (length new.clauses - length old.clauses)
    log_longer = grown F old.clauses new.clauses old.log new.log h.clauses l.log new.vars l.learnt

    pub holds_after : HoldsBlocks T f (blocks_in q) new
    holds_after = record {
      clauses = same_after F old.clauses new.clauses old.log new.log h.clauses l.log new.vars l.learnt;
      log = λ n one le. Spent-learnt (vars_of T n) 0 F old.log new.log (drop (length old.clauses) new.clauses) l.log (h.log n one le) (learnt_of n one le) (let e = log_longer in omega arith);
      vars = vars_after;
    }

    pub learns_over : LearnsOver T q old.log new.log budget
    learns_over = record {
      learnt = subst (λ (x : List (List ℕ)). IsLearnt (vars_of T (blocks_in q)) (x ++ old.log) (x ++ new.log)) (sym (fixed_is T f q begins)) (learnt_of (blocks_in q) some (omega arith));
      within = λ b. let e = log_longer in let w = l.within b in omega arith;
    }

    -- an assignment that meets all clauses meets the query, also where it is made longer
    pub meets_query : (a b : List Bool) → IsMet new.vars new.clauses ls a → length b ≡ vars_of T (blocks_in q) → ((v : ℕ) → truths b v ≡ truths a v) → MeetsQuery T q b
    meets_query a b m size same = record {
      size = size;
      query = all_local (vars_of T (blocks_in q)) (truths b) (truths a) (λ v lt. same v) (query T q) (query_below T q some) ∙ query-from_parts (truths a) T q met_fixed met_asked;
    }
      where
        met_fixed : MeetsAll (truths a) (fixed T q)
        met_fixed = subst (MeetsAll (truths a)) (sym (fixed_is T f q begins))
            (met_left (truths a) F new.log (MeetsAll-fewer (truths a) (F ++ new.log) new.clauses holds_after.clauses.first m.clauses))

        met_asked : AreTrue (truths a) (asked T q)
        met_asked = subst (AreTrue (truths a)) is m.literals

    pub refutes_query : IsRefuted old.clauses new.clauses ls → RefutesQuery T q new.log
    refutes_query r = record {
      none_meets = λ A m.
          let p = query_parts A T q m in
          let fixed_met : MeetsAll A F = subst (MeetsAll A) (fixed_is T f q begins) p.0 in
          let all : MeetsAll A (F ++ old.log) = log_met A F old.log fixed_met (h.log (blocks_in q) some (omega arith)).follows in
          r.none_meets A (MeetsAll-fewer A old.clauses (F ++ old.log) h.clauses.second all) (subst (AreTrue A) (sym is) p.1);
      refuted =
          subst (λ (x : List (List ℕ)). Refuted (x ++ new.log) (asked T q)) (sym (fixed_is T f q begins))
          (subst (Refuted (F ++ new.log)) is (Refuted-more new.clauses (F ++ new.log) ls ls holds_after.clauses.second (λ l h. h) r.refuted));
    }

    pub spends_query : 0 < budget → length new.log ≡ length old.log + budget → SpendsQuery T q old.log new.log budget
    spends_query limited longer = record {
      limited = limited;
      grown = longer;
      spent = subst (λ (x : List (List ℕ)). Spent (vars_of T (blocks_in q)) x budget new.log) (sym (fixed_is T f q begins))
          (Spent-learnt (vars_of T (blocks_in q)) budget F old.log new.log (drop (length old.clauses) new.clauses) l.log (h.log (blocks_in q) some (omega arith)) (learnt_of (blocks_in q) some (omega arith)) (omega arith));
    }

    -- the answer of the solver, as one about the query
    pub answer_says : (answer made : KeptAnswer) → KeptSays new.vars old.clauses new.clauses old.log new.log ls budget answer → IsFilled (vars_of T (blocks_in q)) answer made → BlocksSay T q old.log new.log budget made
    answer_says (Sat a) made m w =
        let few : length a ≤ vars_of T (blocks_in q) = let v = vars_after (blocks_in q) some (omega arith) in let s = m.size in omega arith in
        subst (BlocksSay T q old.log new.log budget) (sym w.1) (meets_query a w.0 m (w.2 few) w.3)
    answer_says Unsat made r e = subst (BlocksSay T q old.log new.log budget) (sym e) (refutes_query r)
    answer_says (SpentWith shown) made s e = subst (BlocksSay T q old.log new.log budget) (sym e) (s.1, spends_query s.0 s.2)
    answer_says Stopped made s e = subst (BlocksSay T q old.log new.log budget) (sym e) tt

pub stopped_same : (n : ℕ) (answer made : KeptAnswer) → IsFilled n answer made → is_stopped answer ≡ is_stopped made
stopped_same n (Sat a) made w = ap is_stopped (sym w.1)
stopped_same n Unsat made e = ap is_stopped (sym e)
stopped_same n (SpentWith shown) made e = ap is_stopped (sym e)
stopped_same n Stopped made e = ap is_stopped (sym e)
