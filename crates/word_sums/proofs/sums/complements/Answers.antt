use Rattle.std.proofs.Common.{arith, ◌<◌, subst, sym}
use Rattle.std.proofs.lemmas.Grind.{common_steps}
use Rattle.sat_clause.specs.Literals.{variable_of}
use Rattle.word_sums.proofs.Growth.{complement_pushed}
use Rattle.word_sums.proofs.Totals.{turned_more}
use Rattle.word_sums.proofs.sums.complements.Goals as goal

pub loop-x-preserved : goal.loop-x-preserved
loop-x-preserved c = record {
  len = grind (arith, common_steps);
  word = λ n below. complement_pushed n c.loop-x.turned c.push.new.self c.x-item.result c.complement.result c.in_ok-push.ensures.ok c.complement.ensures (c.loop-x.invariant.word n below)
      (subst (λ z. variable_of z < n) (sym c.x-item.is) (below c.loop-x.x-index c.x-item.result c.loop-x-test.true));
  value = λ A. turned_more A c.loop-x.x-index c.args.a.now c.loop-x.turned c.push.new.self c.x-item.result c.complement.result c.loop-x.invariant.len c.loop-x-test.true c.in_ok-push.ensures.ok c.x-item.is c.complement.ensures (c.loop-x.invariant.value A);
}
