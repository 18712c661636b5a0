use Rattle.std.proofs.Common.{◌≡◌, drop}
use Rattle.std.specs.Option.{option_map}
use Rattle.std.specs.Prelude.{pos, ◌*ℤ◌}
use Rattle.kv_num.specs.IntType.{InRange, wrap_of}
use Rattle.c_kinds.specs.Integers.{size_type}
use Rattle.c_kinds.specs.Layouts.{bytes_by}
use Rattle.c_arithmetic.proofs.sizes.wrapped_bytes.Given as goal

-- the arrays before this place have this many elements, modulo the size of the type
abbrev pub invariant-loop-derivation : goal.invariant-loop-derivation
invariant-loop-derivation l = record {
  in_range : InRange (size_type l.model) l.count;
  left : option_map (λ bytes. wrap_of (size_type l.model) (l.count *ℤ pos bytes)) (bytes_by l.model (drop l.derivation-index l.ctype.derived) l.ctype.base)
      ≡ option_map (λ bytes. wrap_of (size_type l.model) (pos bytes)) (bytes_by l.model l.ctype.derived l.ctype.base);
}
