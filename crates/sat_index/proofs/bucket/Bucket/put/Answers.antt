use Rattle.std.proofs.Common.{is_ok}
use Rattle.sat_index.proofs.Signatures.{AreWithin-put}
use Rattle.sat_index.proofs.bucket.Bucket.put.Goals as goal

pub invariant_of-self : goal.invariant_of-self
invariant_of-self c = record { ok = AreWithin-put (is_ok c.push.result) c.args.self.now.joint c.args.self.now.occurrences.items c.push.new.self.items c.args.occurrence c.args.self.now.ok c.push.ensures.items }
