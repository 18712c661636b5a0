use Rattle.std.proofs.Common.{◌≡◌, ◌<◌, length}
use Rattle.c_macros.specs.Chains.{IsNoWord, Reaches, name_at}
use Rattle.c_macros.specs.Tables.{IsKnown, macros_view}
use Rattle.c_macros.proofs.macros.Macros.end_from.Given as goal

-- the first definition reaches this one, and what the names say stays
abbrev pub invariant-loop-turn : goal.invariant-loop-turn
invariant-loop-turn l =
    (l.at < length (macros_view l.fn.self).defined) × IsNoWord (name_at (macros_view l.fn.self).defined l.at)
    × Reaches (macros_view l.fn.self).defined (name_at (macros_view l.fn.self).defined l.fn.first) (name_at (macros_view l.fn.self).defined l.at)
    × (macros_view l.self ≡ macros_view l.fn.self) × IsKnown l.self × (l.self.model ≡ l.fn.self.model)
