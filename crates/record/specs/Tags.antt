-- The tags of fields. Assumes nothing.
use Rattle.std.specs.Prelude.{◌≡◌, ◌≢◌, ℕ, Result, MatchResult}
use Rattle.record.specs.declared.field.Tag.{Tag}
use Rattle.record.specs.declared.field.Tag.TheVariants.{Name, Value, End}
use Rattle.record.specs.declared.field.NoTag.{NoTag}

abbrev pub byte_of : Tag → ℕ
byte_of Name = 1
byte_of Value = 2
byte_of End = 3

abbrev pub IsNoTag : ℕ → Type 0
IsNoTag b = (b ≢ 1) × (b ≢ 2) × (b ≢ 3)

-- the result is the tag with this byte, or says that none has it
abbrev pub IsByteOf : ℕ → Result Tag NoTag → Type 0
IsByteOf b r = MatchResult r (λ tag. byte_of tag ≡ b) (λ _. IsNoTag b)
