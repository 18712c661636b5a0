use Rattle.std.proofs.Common.{rules, ◌≡◌, true}
use Rattle.term_fold.proofs.Known.{operands_known}
use Rattle.term_fold.proofs.simpler.operands_of.Goals as goal

pub returns : goal.returns
returns c =
    let same : (c.eq.result ≡ true → c.args.left ≡ c.args.right) = λ h. search rules in
    operands_known c.args.terms.now c.args.left c.args.right c.get.result c.get-2.result c.constant_of.result c.constant_of-2.result c.eq.result c.values_are_fixed.ensures.shaped c.get.ensures.value c.get-2.ensures.value c.requires.left c.requires.right c.get.ensures.placed c.constant_of.ensures c.constant_of-2.ensures same
