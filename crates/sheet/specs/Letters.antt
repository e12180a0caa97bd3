-- The letters of the lines of the output.
use Rattle.std.specs.Prelude.{ℕ}
use Rattle.sheet.specs.declared.entries.Subject.{Subject}
use Rattle.sheet.specs.declared.entries.Subject.TheVariants.{Sheet, Opening, Call}
use Rattle.sheet.specs.Days.{letter_of}

-- ?, O, or that of the request
abbrev pub letter : Subject → ℕ
letter Sheet = 63
letter Opening = 79
letter (Call q) = letter_of q
