use Rattle.std.proofs.Common.{◌*◌, arith}
use Rattle.sat_core.proofs.setup.fit.Goals as goal

pub returns-clause-wider : goal.returns-clause-wider
returns-clause-wider c =
    let i = c.rooms.invariant in
    let r = c.room_for-room.ensures in
    let enough = c.rooms-test.false in
    let now = c.len-in-rooms.ensures in
    let was = c.len.ensures in
    record {
      longer = i.longer;
      room = λ k lt. let b = r.room k lt in omega arith;
      least = λ m le all. i.least m (r.least (2 * m) (omega arith) all);
    }
