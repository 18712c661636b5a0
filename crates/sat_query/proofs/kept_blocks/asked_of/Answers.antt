use Rattle.std.proofs.Common.{Bool, ℕ, ◌≡◌, ◌-◌, length, ap, subst, ◌∙◌, arith}
use Rattle.kv_clause.specs.declared.template.Template.{Template}
use Rattle.kv_clause.specs.declared.query.Query.{Query}
use Rattle.kv_clause.specs.Queries.{asked, blocks_in, vars_of}
use Rattle.sat_core.specs.Polling.{WasAsked}
use Rattle.sat_query.specs.Keeping.{is_stopped}
use Rattle.sat_query.specs.KeepingBlocks.{IsFilled}
use Rattle.sat_query.proofs.Questions.{holds_after, learns_over, log_longer, answer_says, stopped_same}
use Rattle.sat_query.proofs.kept_blocks.asked_of.Goals as goal

pub returns-clause-holds : goal.returns-clause-holds
returns-clause-holds g c =
    let T : Template = g.B.Blocks.of c.args.blocks.now in
    let q : Query = c.args.q.now in
    let e = c.in_ok-answer.ensures in
    let is : c.in_ok-lits.lits ≡ asked T q = c.in_ok-lits.ensures ∙ ap (λ (t : Template). asked t q) c.template-2.ensures in
    holds_after T c.args._from_start q c.requires.query c.requires.some c.args.kept.now c.ask.new.self c.in_ok-lits.lits c.args.budget c.requires.holds e.learns e.vars is

pub returns-clause-learns : goal.returns-clause-learns
returns-clause-learns g c =
    let T : Template = g.B.Blocks.of c.args.blocks.now in
    let q : Query = c.args.q.now in
    let e = c.in_ok-answer.ensures in
    let is : c.in_ok-lits.lits ≡ asked T q = c.in_ok-lits.ensures ∙ ap (λ (t : Template). asked t q) c.template-2.ensures in
    learns_over T c.args._from_start q c.requires.query c.requires.some c.args.kept.now c.ask.new.self c.in_ok-lits.lits c.args.budget c.requires.holds e.learns e.vars is

pub returns-clause-answer : goal.returns-clause-answer
returns-clause-answer g c =
    let T : Template = g.B.Blocks.of c.args.blocks.now in
    let q : Query = c.args.q.now in
    let e = c.in_ok-answer.ensures in
    let is : c.in_ok-lits.lits ≡ asked T q = c.in_ok-lits.ensures ∙ ap (λ (t : Template). asked t q) c.template-2.ensures in
    let vars : c.vars_of_blocks-vars.result ≡ vars_of T (blocks_in q) = c.vars_of_blocks-vars.ensures ∙ ap (λ (t : Template). vars_of t c.blocks-2.result) c.template.ensures ∙ ap (vars_of T) c.blocks-2.ensures in
    answer_says T c.args._from_start q c.requires.query c.requires.some c.args.kept.now c.ask.new.self c.in_ok-lits.lits c.args.budget c.requires.holds e.learns e.vars is c.in_ok-answer.answer c.in_ok-made.made e.answer (subst (λ (n : ℕ). IsFilled n c.in_ok-answer.answer c.in_ok-made.made) vars c.in_ok-made.ensures)

pub returns-clause-asked : goal.returns-clause-asked
returns-clause-asked g c =
    let T : Template = g.B.Blocks.of c.args.blocks.now in
    let q : Query = c.args.q.now in
    let e = c.in_ok-answer.ensures in
    let is : c.in_ok-lits.lits ≡ asked T q = c.in_ok-lits.ensures ∙ ap (λ (t : Template). asked t q) c.template-2.ensures in
    let longer = log_longer T c.args._from_start q c.requires.query c.requires.some c.args.kept.now c.ask.new.self c.in_ok-lits.lits c.args.budget c.requires.holds e.learns e.vars is in
    let many : length c.ask.new.self.clauses - length c.args.kept.now.clauses ≡ length c.ask.new.self.log - length c.args.kept.now.log = omega arith in
    let same = stopped_same c.vars_of_blocks-vars.result c.in_ok-answer.answer c.in_ok-made.made c.in_ok-made.ensures in
    subst (λ (b : Bool). WasAsked g.P.Poll.asks g.P.Poll.yeses c.args.poll.now c.ask.new.poll (length c.ask.new.self.log - length c.args.kept.now.log) b) same
    (subst (λ (n : ℕ). WasAsked g.P.Poll.asks g.P.Poll.yeses c.args.poll.now c.ask.new.poll n (is_stopped c.in_ok-answer.answer)) many e.asked)
