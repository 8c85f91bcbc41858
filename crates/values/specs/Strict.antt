-- Strict equality and truth of language values, as ECMA-262 writes them: IsStrictlyEqual, SameType,
-- Number::equal, SameValueNonNumber and ToBoolean, step by step and in the standard's order.
-- Of its language values a sheet has booleans, texts, and of the Numbers whole ones, -0 and NaN.
use Rattle.std.specs.Prelude.{ℕ, Bool, true, false, cond, not, ◌&&◌, List, [], ◌∷◌, ℤ, pos, negsuc, ◌==◌}
use Rattle.values.specs.Bytes.{equal_lists}

pub data Number : Type 0 where
  integer : ℤ → Number
  minus_zero : Number
  not_a_number : Number

-- a text is the list of its code units
pub data LanguageValue : Type 0 where
  boolean : Bool → LanguageValue
  number : Number → LanguageValue
  text : List ℕ → LanguageValue

abbrev pub same_integer : ℤ → ℤ → Bool
same_integer (pos m) (pos n) = m == n
same_integer (pos m) (negsuc n) = false
same_integer (negsuc m) (pos n) = false
same_integer (negsuc m) (negsuc n) = m == n

-- 'x is y' of two Numbers
abbrev pub same_number : Number → Number → Bool
same_number (integer m) (integer n) = same_integer m n
same_number (integer m) minus_zero = false
same_number (integer m) not_a_number = false
same_number minus_zero (integer n) = false
same_number minus_zero minus_zero = true
same_number minus_zero not_a_number = false
same_number not_a_number (integer n) = false
same_number not_a_number minus_zero = false
same_number not_a_number not_a_number = true

abbrev pub is_not_a_number : Number → Bool
is_not_a_number x = same_number x not_a_number

-- +0 and -0
abbrev pub is_plus_zero : Number → Bool
is_plus_zero x = same_number x (integer (pos 0))

abbrev pub is_minus_zero : Number → Bool
is_minus_zero x = same_number x minus_zero

-- Number::equal: NaN is equal to nothing, then the same Number, then the two zeros
abbrev pub number_equal : Number → Number → Bool
number_equal x y =
    cond (is_not_a_number x) false
    (cond (is_not_a_number y) false
    (cond (same_number x y) true
    (cond (is_plus_zero x && is_minus_zero y) true
    (cond (is_minus_zero x && is_plus_zero y) true false))))

abbrev pub same_type : LanguageValue → LanguageValue → Bool
same_type (boolean a) (boolean b) = true
same_type (boolean a) (number y) = false
same_type (boolean a) (text ys) = false
same_type (number x) (boolean b) = false
same_type (number x) (number y) = true
same_type (number x) (text ys) = false
same_type (text xs) (boolean b) = false
same_type (text xs) (number y) = false
same_type (text xs) (text ys) = true

-- both true or both false
abbrev pub same_boolean : Bool → Bool → Bool
same_boolean true b = b
same_boolean false b = not b

-- SameValueNonNumber: texts of the same length with the same code units, or the same boolean. It is
-- asked of two values of one type that is not Number, so the other answers are never read.
abbrev pub same_value_non_number : LanguageValue → LanguageValue → Bool
same_value_non_number (boolean a) (boolean b) = same_boolean a b
same_value_non_number (boolean a) (number y) = false
same_value_non_number (boolean a) (text ys) = false
same_value_non_number (number x) y = false
same_value_non_number (text xs) (boolean b) = false
same_value_non_number (text xs) (number y) = false
same_value_non_number (text xs) (text ys) = equal_lists xs ys

-- the last two steps of IsStrictlyEqual: Numbers by Number::equal, others by SameValueNonNumber
abbrev pub equal_same_type : LanguageValue → LanguageValue → Bool
equal_same_type (number x) (number y) = number_equal x y
equal_same_type (number x) (boolean b) = same_value_non_number (number x) (boolean b)
equal_same_type (number x) (text ys) = same_value_non_number (number x) (text ys)
equal_same_type (boolean a) y = same_value_non_number (boolean a) y
equal_same_type (text xs) y = same_value_non_number (text xs) y

-- IsStrictlyEqual
abbrev pub is_strictly_equal : LanguageValue → LanguageValue → Bool
is_strictly_equal x y = cond (same_type x y) (equal_same_type x y) false

-- ToBoolean: false, +0, -0, NaN and the text of no code unit are false, all else is true
abbrev pub to_boolean : LanguageValue → Bool
to_boolean (boolean b) = b
to_boolean (number x) = not (is_plus_zero x) && (not (is_minus_zero x) && not (is_not_a_number x))
to_boolean (text []) = false
to_boolean (text (c ∷ cs)) = true
