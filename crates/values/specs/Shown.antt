-- How the values of a sheet are shown, byte by byte.
use Rattle.std.specs.Prelude.{ℕ, cond, List, ◌++◌, codes}
use Rattle.std.specs.Fmt.{signed_decimal}
use Rattle.std.specs.Str.{is_utf8}
use Rattle.values.specs.declared.sheet_value.SheetValue.{SheetValue}
use Rattle.values.specs.declared.sheet_value.SheetValue.TheVariants.{Yes, No, Number, MinusZero, NotANumber, Text as TextOf}
use Rattle.values.specs.declared.text.Text.{Text}
use Rattle.values.specs.SheetValues.{text_bytes}

-- a text: its bytes between quotes, or a question mark between quotes where the bytes are no UTF-8
abbrev pub text_shown : Text → List ℕ
text_shown t = cond (is_utf8 (text_bytes t)) (codes "\"" ++ (text_bytes t ++ codes "\"")) (codes "\"?\"")

-- a value; whole numbers are decimal
abbrev pub value_shown : SheetValue → List ℕ
value_shown Yes = codes "true"
value_shown No = codes "false"
value_shown (Number n) = signed_decimal n
value_shown MinusZero = codes "-0"
value_shown NotANumber = codes "NaN"
value_shown (TextOf t) = text_shown t
