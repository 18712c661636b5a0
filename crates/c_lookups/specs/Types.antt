-- Types that are looked at.
use Rattle.c_kinds.specs.declared.types.CType.{CType}
use Rattle.c_lookups.specs.declared.types.TypeView.{TypeView}

-- the type
abbrev pub seen : TypeView → CType
seen view = record { derived = view.derived.now; base = view.base; is_const = view.is_const }
