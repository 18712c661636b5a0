use Rattle.std.proofs.Common.{refl, arith}
use Rattle.proof_checker.proofs.Ready.{IsReady-push}
use Rattle.proof_checker.proofs.parts.append.Goals as goal

pub returns-clause-ready : goal.returns-clause-ready
returns-clause-ready c =
    IsReady-push c.args.parts.now _ c.args.clause.now c.in_ok-push.ensures.ok refl refl (omega (arith, c.len-number.ensures, c.if-number-ge4294967295.false)) c.requires.room c.requires.ready
