use Rattle.std.proofs.Common.{◌≡◌, List, sym, subst}
use Rattle.term_core.specs.declared.term.Term.{Term}
use Rattle.term_core.specs.Table.{IsTable, IsShared}
use Rattle.term_core.proofs.Values.{has_values, has_one_value, has_shapes}
use Rattle.term_core.proofs.table.Terms.values_are_fixed.Goals as goal

pub returns : goal.returns
returns c =
    let ts : List Term = c.args.self.now in
    let e : ts ≡ c.self.inside.terms.keys = cc in
    let table : IsTable ts = subst (λ (l : List Term). IsTable l) (sym e) c.self.invariant.0 in
    record {
      table = table;
      shared = subst (λ (l : List Term). IsShared l) (sym e) c.self.invariant.1;
      exist = has_values ts table;
      only = has_one_value ts table;
      shaped = has_shapes ts table;
    }
