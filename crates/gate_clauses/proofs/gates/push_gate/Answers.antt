use Rattle.std.proofs.Common.{Bool, ◌&&◌, not, ap, sym, ◌∙◌}
use Rattle.kv_num.specs.Bits.{differ}
use Rattle.sat_clause.specs.Literals.{is_true, all_hold}
use Rattle.gate_core.specs.Table.{gate_value}
use Rattle.gate_clauses.proofs.Pushed.{plain_literal}
use Rattle.gate_clauses.proofs.gates.push_gate.Goals as goal

pub returns-in_ok-push_and-in-And-clause-says : goal.returns-in_ok-push_and-in-And-clause-says
returns-in_ok-push_and-in-And-clause-says c = λ A.
    c.in_ok-push_and-in-And.ensures.says A
    ∙ (ap (λ b. all_hold A c.args.clauses.now && not (differ b (is_true A c.in-And.a && is_true A c.in-And.b))) (plain_literal A c.new-v.result c.args.at c.new-v.ensures)
    ∙ ap (λ g. all_hold A c.args.clauses.now && not (differ (A c.args.at) (gate_value A c.args.at g))) (sym c.in-And.is))
