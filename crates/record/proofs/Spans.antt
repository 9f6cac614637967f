-- Looking a name up. Assumes nothing.
use Rattle.std.proofs.Common.{◌≡◌, ℕ, List, [], ◌∷◌, is_some, refl, arith}
use Rattle.std.specs.Option.{option_map}
use Rattle.std.proofs.lemmas.Bool.Decides.{nat_tests}
use Rattle.record.specs.declared.shape.Entry.{Entry}
use Rattle.record.specs.Reading.{named}
use Rattle.record.specs.Answers.{bytes_at, pairs_of, value_span, value_of}

-- the value at the span is the value of the pair
pub span_value : (input wanted : List ℕ) (es : List Entry) → option_map (bytes_at input) (value_span input wanted es) ≡ value_of wanted (pairs_of input es)
span_value input wanted [] = refl
span_value input wanted (e ∷ es) = grind (arith, nat_tests, span_value input wanted es)

-- and there is one just where the name is
pub span_named : (input wanted : List ℕ) (es : List Entry) → is_some (value_span input wanted es) ≡ named wanted (pairs_of input es)
span_named input wanted [] = refl
span_named input wanted (e ∷ es) = grind (arith, nat_tests, span_named input wanted es)
