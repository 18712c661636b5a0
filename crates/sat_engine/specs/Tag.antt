use Rattle.std.specs.Prelude.{ℕ}

-- the least word that begins a clause
abbrev pub first_tag : ℕ
first_tag = 2147483648
