-- What the readers read is spelled by the tokens: expressions, specifiers and declarators.
use Rattle.std.proofs.Common.{ℕ, zero, suc, ◌∙◌, sym, refl, List}
use Rattle.c_tokens.specs.declared.token.TokenKind.{TokenKind}
use Rattle.c_grammar.specs.Kinds.{kind_at, suffix, prefix}
use Rattle.c_grammar.specs.Marks.{mark_at}
use Rattle.c_grammar.specs.ReadTypes.{attributes, separated, member, decorated}
use Rattle.c_grammar.specs.Readers.{read, more, specifiers, perhaps, types, declarator, struct_with, enum_with}
use Rattle.c_grammar_laws.proofs.Steps.{decide, read_none, read_on}
use Rattle.c_grammar_laws.proofs.TypeSteps.{specifiers_none, specifiers_on, perhaps_none, perhaps_on}
use Rattle.c_grammar_laws.proofs.Sound.{IsSoundReader, IsSoundContinues, prefix_sound, more_sound_none, more_sound_on}
use Rattle.c_grammar_laws.proofs.SoundTypes.{IsSound, SpecifiedAs, DecoratedAs, PerhapsAs, attributes_sound, members_sound, lines_sound, constants_sound, all_specifiers_sound}
use Rattle.c_grammar_laws.proofs.SoundDeclarators.{decorated_sound, perhaps_with_sound, type_name_sound}

abbrev pub AreSound : List TokenKind → ℕ → Type 0
AreSound kinds n =
    IsSoundReader kinds (read kinds n) × IsSoundContinues kinds (more kinds n) × IsSound (SpecifiedAs kinds) (specifiers kinds n) × IsSound (PerhapsAs kinds) (perhaps kinds n)

none_sound : (kinds : List TokenKind) → AreSound kinds zero
none_sound kinds = (
  λ least p x q le h. let z = read_none kinds least p in cc,
  λ reached least p q r x y le d h. more_sound_none kinds reached least p q r x y le d h (decide reached least (suffix (kind_at kinds q))),
  λ p y q h. let z = specifiers_none kinds p in cc,
  λ p y q h. let z = perhaps_none kinds p in cc,
)

specifiers_on_sound : (kinds : List TokenKind) (n : ℕ) → AreSound kinds n → IsSound (SpecifiedAs kinds) (specifiers kinds (suc n))
specifiers_on_sound kinds n i p y q h =
    let dc = decorated_sound kinds (attributes kinds n) (attributes_sound kinds n) (perhaps kinds n) i.3 in
    all_specifiers_sound kinds (struct_with kinds (read kinds n) (specifiers kinds n) (perhaps kinds n) n)
    (lines_sound kinds (specifiers kinds n) i.2 (separated kinds (member kinds (read kinds n) (decorated (attributes kinds n) (perhaps kinds n))) n)
    (members_sound kinds (read kinds n) i.0 (decorated (attributes kinds n) (perhaps kinds n)) dc n) n)
    (enum_with kinds (read kinds n) n) (constants_sound kinds (read kinds n) i.0 n) (suc n) p y q (sym (specifiers_on kinds n p) ∙ h)

on_sound : (kinds : List TokenKind) (n : ℕ) → AreSound kinds n → AreSound kinds (suc n)
on_sound kinds n i = (
  λ least p x q le h. prefix_sound kinds (read kinds n) (types kinds n) (more kinds n) i.0 (type_name_sound kinds (read kinds n) i.0 (specifiers kinds n) i.2 n) i.1
      least p q x (prefix (kind_at kinds p)) le refl (sym (read_on kinds n least p) ∙ h),
  λ reached least p q r x y le d h. more_sound_on kinds n i.0 i.1 reached least p q r x y le d h (decide reached least (suffix (kind_at kinds q))),
  specifiers_on_sound kinds n i,
  λ p y q h. perhaps_with_sound kinds (read kinds n) i.0 (specifiers kinds n) i.2 (perhaps kinds n) i.3 n p q y (mark_at kinds p) refl (sym (perhaps_on kinds n p) ∙ h),
)

-- what the readers read is spelled
pub readers_sound : (kinds : List TokenKind) (n : ℕ) → AreSound kinds n
readers_sound kinds zero = none_sound kinds
readers_sound kinds (suc n) = on_sound kinds n (readers_sound kinds n)

pub declarator_sound : (kinds : List TokenKind) (n : ℕ) → IsSound (DecoratedAs kinds) (declarator kinds n)
declarator_sound kinds n = let i = readers_sound kinds n in decorated_sound kinds (attributes kinds n) (attributes_sound kinds n) (perhaps kinds n) i.3
