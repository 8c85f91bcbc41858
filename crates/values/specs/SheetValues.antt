-- What the values of a sheet are: language values, and lists of whole numbers that tell them apart.
-- `read_value` reads a list back, so that truth and strict equality of lists are ToBoolean and
-- IsStrictlyEqual of the values that they stand for.
use Rattle.std.specs.Prelude.{◌≡◌, ℕ, Bool, true, false, cond, List, [], ◌∷◌, pos, negsuc, Some, None, Option, ◌==◌}
use Rattle.values.specs.declared.sheet_value.SheetValue.{SheetValue}
use Rattle.values.specs.declared.sheet_value.SheetValue.TheVariants.{Yes, No, Number as Whole, MinusZero, NotANumber, Text as TextOf}
use Rattle.values.specs.declared.text.Text.{Text}
use Rattle.values.specs.Bytes.{bytes_of, join_halves}
use Rattle.values.specs.Strict.{LanguageValue, boolean, number, text, integer, minus_zero, not_a_number, is_strictly_equal, to_boolean}

-- the bytes of a text, in order
abbrev pub text_bytes : Text → List ℕ
text_bytes t = bytes_of t.len (join_halves t.low t.high)

-- the language value of each value of a sheet
abbrev pub language : SheetValue → LanguageValue
language Yes = boolean true
language No = boolean false
language (Whole n) = number (integer n)
language MinusZero = number minus_zero
language NotANumber = number not_a_number
language (TextOf t) = text (text_bytes t)

-- the value of a sheet that a boolean is
abbrev pub boolean_value : Bool → SheetValue
boolean_value true = Yes
boolean_value false = No

-- the first number of a list says what it stands for
abbrev pub false_tag : ℕ
false_tag = 0

abbrev pub true_tag : ℕ
true_tag = 1

-- a whole number from 0 on: the number follows
abbrev pub positive_tag : ℕ
positive_tag = 2

-- a whole number below 0: what -1 less the number is follows
abbrev pub negative_tag : ℕ
negative_tag = 3

abbrev pub minus_zero_tag : ℕ
minus_zero_tag = 4

abbrev pub not_a_number_tag : ℕ
not_a_number_tag = 5

-- a text: its code units follow
abbrev pub text_tag : ℕ
text_tag = 6

-- the list of numbers of a language value
abbrev pub listed : LanguageValue → List ℕ
listed (boolean false) = false_tag ∷ []
listed (boolean true) = true_tag ∷ []
listed (number (integer (pos n))) = positive_tag ∷ n ∷ []
listed (number (integer (negsuc n))) = negative_tag ∷ n ∷ []
listed (number minus_zero) = minus_zero_tag ∷ []
listed (number not_a_number) = not_a_number_tag ∷ []
listed (text units) = text_tag ∷ units

-- the meaning of a value of a sheet
abbrev pub sheet_meaning : SheetValue → List ℕ
sheet_meaning v = listed (language v)

-- a value that only a tag stands for
abbrev pub tag_alone : LanguageValue → List ℕ → Option LanguageValue
tag_alone v [] = Some v
tag_alone v (n ∷ ns) = None

-- a value that a tag and one number stand for
abbrev pub tag_and_number : (ℕ → LanguageValue) → List ℕ → Option LanguageValue
tag_and_number f [] = None
tag_and_number f (n ∷ []) = Some (f n)
tag_and_number f (n ∷ m ∷ ns) = None

abbrev pub read_tagged : ℕ → List ℕ → Option LanguageValue
read_tagged tag rest =
    cond (tag == false_tag) (tag_alone (boolean false) rest)
    (cond (tag == true_tag) (tag_alone (boolean true) rest)
    (cond (tag == positive_tag) (tag_and_number (λ n. number (integer (pos n))) rest)
    (cond (tag == negative_tag) (tag_and_number (λ n. number (integer (negsuc n))) rest)
    (cond (tag == minus_zero_tag) (tag_alone (number minus_zero) rest)
    (cond (tag == not_a_number_tag) (tag_alone (number not_a_number) rest)
    (cond (tag == text_tag) (Some (text rest)) None))))))

-- the language value that a list stands for, if it stands for one
abbrev pub read_value : List ℕ → Option LanguageValue
read_value [] = None
read_value (tag ∷ rest) = read_tagged tag rest

-- truth of a list: that of the value it stands for, and false where it stands for none
abbrev pub truth_of : Option LanguageValue → Bool
truth_of None = false
truth_of (Some v) = to_boolean v

abbrev pub sheet_truthy : List ℕ → Bool
sheet_truthy a = truth_of (read_value a)

-- strict equality of two lists: that of the values they stand for, and false where one stands for none
abbrev pub equality_of : Option LanguageValue → Option LanguageValue → Bool
equality_of None b = false
equality_of (Some x) None = false
equality_of (Some x) (Some y) = is_strictly_equal x y

abbrev pub sheet_equal : List ℕ → List ℕ → Bool
sheet_equal a b = equality_of (read_value a) (read_value b)

-- What the lists say of the values: reading inverts listing, so that no two language values have one
-- list, and truth and strict equality of lists are ToBoolean and IsStrictlyEqual of the values.
pub record MeaningsOfValues : Type 0 where
  pub inverse : (v : LanguageValue) → read_value (listed v) ≡ Some v
  pub truth : (v : LanguageValue) → sheet_truthy (listed v) ≡ to_boolean v
  pub equality : (x y : LanguageValue) → sheet_equal (listed x) (listed y) ≡ is_strictly_equal x y
