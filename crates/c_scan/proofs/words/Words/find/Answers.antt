use Rattle.std.proofs.Common.{◌≡◌, Some, None, sym}
use Rattle.c_tokens.specs.Words.{lookup}
use Rattle.c_scan.specs.Rows.{rows}
use Rattle.c_scan.proofs.Lookups.{lookup_first, lookup_second}
use Rattle.c_scan.proofs.words.Words.find.Goals as goal

pub returns-in-Some : goal.returns-in-Some
returns-in-Some c =
    let self = c.args.self.now in
    let found : lookup (rows self.keywords) c.args.text.now ≡ Some c.in-Some.kind = cc c.in_ok-kind.ensures in
    sym (lookup_first (rows self.keywords) (rows self.left_out) c.args.text.now c.in-Some.kind found)

pub returns-in-None : goal.returns-in-None
returns-in-None c =
    let self = c.args.self.now in
    let none : lookup (rows self.keywords) c.args.text.now ≡ None = cc c.in_ok-kind.ensures in
    rw (lookup_second (rows self.keywords) (rows self.left_out) c.args.text.now none) c.find-in-None.ensures
