-- Script words, as docs/FORMAT.md has them: a 32-bit word is a kind, its top 5 bits, and a number, its low 27.
-- Kinds 1 to 27 are listed; 0 and 28 to 31 are not, and are all read as Unlisted.
use Rattle.std.specs.Prelude.{ℕ, ◌+◌, ◌*◌, ◌/◌, ◌%◌, ◌^◌, Bool, false, cond, List, [], ◌∷◌, Some, None, Option, Result, nat_le, nat_lt, slice_index_or}
use Rattle.std.specs.Option.{ok_or}
use Rattle.words.specs.declared.word.Kind.{Kind}
use Rattle.words.specs.declared.word.Kind.TheVariants.{Unlisted, Empty, Block, Expr, Var, Let, If, For, While, Do, Switch, Label, Break, BreakTo, Continue, ContinueTo, Return, Throw, Try, Body, Catch, CatchName, Case, Default, Expression, Sequence, Name, NameInit}
use Rattle.words.specs.declared.word.Word.{Word}
use Rattle.words.specs.declared.word.Unwritable.{Unwritable}

-- numbers are below this
abbrev pub number_limit : ℕ
number_limit = 2 ^ 27

-- the kinds, each at its number
abbrev pub kinds : List Kind
kinds =
    Unlisted ∷ Empty ∷ Block ∷ Expr ∷ Var ∷ Let ∷ If ∷ For ∷ While ∷ Do ∷ Switch ∷ Label ∷ Break ∷ BreakTo
    ∷ Continue ∷ ContinueTo ∷ Return ∷ Throw ∷ Try ∷ Body ∷ Catch ∷ CatchName ∷ Case ∷ Default ∷ Expression
    ∷ Sequence ∷ Name ∷ NameInit ∷ []

-- the kind of a number
abbrev pub kind_of : ℕ → Kind
kind_of k = slice_index_or kinds k Unlisted

-- a kind's number
abbrev pub code : Kind → ℕ
code Unlisted = 0
code Empty = 1
code Block = 2
code Expr = 3
code Var = 4
code Let = 5
code If = 6
code For = 7
code While = 8
code Do = 9
code Switch = 10
code Label = 11
code Break = 12
code BreakTo = 13
code Continue = 14
code ContinueTo = 15
code Return = 16
code Throw = 17
code Try = 18
code Body = 19
code Catch = 20
code CatchName = 21
code Case = 22
code Default = 23
code Expression = 24
code Sequence = 25
code Name = 26
code NameInit = 27

-- the kinds from one to another, in the order of their numbers
abbrev pub from_to : Kind → Kind → Kind → Bool
from_to low high k = cond (nat_le (code low) (code k)) (nat_le (code k) (code high)) false

abbrev pub is_listed : Kind → Bool
is_listed k = nat_lt 0 (code k)

-- a kind with a number
abbrev pub word : Kind → ℕ → Word
word k n = record { kind = k; number = n }

-- a 32-bit word taken apart
abbrev pub read_word : ℕ → Word
read_word w = word (kind_of (w / number_limit)) (w % number_limit)

-- the 32-bit word of a kind and a number, if there is one
abbrev pub write_word : Word → Option ℕ
write_word w =
    cond (is_listed w.kind)
    (cond (nat_lt w.number number_limit) (Some (code w.kind * number_limit + w.number)) None)
    None

-- that word, or the kind and the number that none stands for
abbrev pub written : Word → Result ℕ Unwritable
written w = ok_or (write_word w) (record { word = w })

-- A For's number is the sum of these, for the parts that it has,
abbrev pub for_expression : ℕ
for_expression = 1

abbrev pub for_declaration : ℕ
for_declaration = 2

abbrev pub for_test : ℕ
for_test = 4

abbrev pub for_update : ℕ
for_update = 8

-- and a Try's of these.
abbrev pub try_catch : ℕ
try_catch = 1

abbrev pub try_finalizer : ℕ
try_finalizer = 2

-- An If's number where it has an alternate, and a Return's where it has a value; else 0
abbrev pub if_alternate : ℕ
if_alternate = 1

abbrev pub return_value : ℕ
return_value = 1

-- 1 where a number has such a part in its sum, else 0
abbrev pub has : ℕ → ℕ → ℕ
has part n = n / part % 2

-- a script has at most so many words
abbrev pub max_words : ℕ
max_words = 16000
