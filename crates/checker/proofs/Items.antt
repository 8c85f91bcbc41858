-- What may stand in a place, typed: for each thing due the type of its items, their words and their rules, and how
-- items are read off words.
use Rattle.std.proofs.Common.{◌≡◌, ℕ, suc, ◌<◌, List, [], ◌∷◌, ◌++◌, length, Some, None, Option, refl, ap}
use Rattle.words.specs.declared.word.Kind.TheVariants as kind
use Rattle.words.specs.declared.word.Word.{Word}
use Rattle.grammar.specs.declared.What.{What}
use Rattle.grammar.specs.declared.What.TheVariants as what
use Rattle.words.specs.Words.{word}
use Rattle.words.specs.Tree.{Expression, Declarator, Statement, Statements, none, some, Let, Cases, no_case, case}
use Rattle.words.specs.Encode.{encode_expression, encode_declarator, encode_var, encode_let, encode, encode_list, encode_cases, encode_body, encode_catch, encode_case, count, count_cases}
use Rattle.checker.specs.Check.{Around}
use Rattle.checker.specs.Rules.{listed, Known, KnownOptional, KnownDeclarator, KnownDeclarators, NoDefault, OneDefault, NotDeep, Keeps, KeepsList, KeepsCases}

-- a Var or a Let with its declarators
pub data Declaration : Type 0 where
  by_var : Declarator → List Declarator → Declaration
  by_let : Declarator → List Declarator → Declaration

abbrev pub encode_declaration : Declaration → List Word
encode_declaration (by_var d ds) = encode_var d ds
encode_declaration (by_let d ds) = encode_let d ds

abbrev pub KnownDeclaration : ℕ → Declaration → Type 0
KnownDeclaration c (by_var d ds) = KnownDeclarators c (d ∷ ds)
KnownDeclaration c (by_let d ds) = KnownDeclarators c (d ∷ ds)

-- a statement of a list
pub data Listed : Type 0 where
  statement : Statement → Listed
  letting : Declarator → List Declarator → Listed

abbrev pub encode_listed : Listed → List Word
encode_listed (statement s) = encode s
encode_listed (letting d ds) = encode_let d ds

abbrev pub KeepsListed : ℕ → Around → Listed → Type 0
KeepsListed c a (statement s) = Keeps c a s
KeepsListed c a (letting d ds) = NotDeep a × KnownDeclarators c (d ∷ ds)

-- a case: its test, none for Default, and its statements
pub data OneCase : Type 0 where
  one_case : Option Expression → Statements → OneCase

abbrev pub encode_one : OneCase → List Word
encode_one (one_case t ss) = encode_case t ss

abbrev pub KeepsOne : ℕ → Around → OneCase → Type 0
KeepsOne c a (one_case t ss) = NotDeep a × KnownOptional c t × KeepsList c (listed a) ss

abbrev pub Tested : OneCase → Type 0
Tested (one_case None ss) = ⊥
Tested (one_case (Some e) ss) = Unit {0}

-- a catch: the name that it binds, if any, and its statements
pub record OneCatch : Type 0 where
  pub name : Option ℕ
  pub list : Statements

abbrev pub encode_one_catch : OneCatch → List Word
encode_one_catch h = encode_catch h.name h.list

abbrev pub KeepsOneCatch : ℕ → Around → OneCatch → Type 0
KeepsOneCatch c a h = KeepsList c (listed a) h.list

abbrev pub All : {A : Type 0} → (A → Type 0) → List A → Type 0
All P [] = Unit {0}
All P (x ∷ xs) = P x × All P xs

abbrev pub joined : {A : Type 0} → (A → List Word) → List A → List Word
joined f [] = []
joined f (x ∷ xs) = f x ++ joined f xs

-- at most one of the cases has no test
abbrev pub AtMostOne : List OneCase → Type 0
AtMostOne [] = Unit {0}
AtMostOne (one_case None ss ∷ cs) = All Tested cs
AtMostOne (one_case (Some e) ss ∷ cs) = AtMostOne cs

abbrev pub Item : What → Type 0
Item what.ListStatement = Listed
Item what.SingleStatement = Statement
Item what.ForDeclaration = Declaration
Item what.Declarator = Declarator
Item what.CatchParameter = ℕ
Item what.Expression = Expression
Item what.SequencePart = ℕ
Item what.Body = Statements
Item what.Catch = OneCatch
Item what.Case = OneCase
Item what.CaseAfterDefault = OneCase

abbrev pub words_of : (x : What) → Item x → List Word
words_of what.ListStatement = encode_listed
words_of what.SingleStatement = encode
words_of what.ForDeclaration = encode_declaration
words_of what.Declarator = encode_declarator
words_of what.CatchParameter = λ n. word kind.Name n ∷ []
words_of what.Expression = encode_expression
words_of what.SequencePart = λ e. word kind.Expression e ∷ []
words_of what.Body = encode_body
words_of what.Catch = encode_one_catch
words_of what.Case = encode_one
words_of what.CaseAfterDefault = encode_one

abbrev pub Holds : (x : What) → ℕ → Around → Item x → Type 0
Holds what.ListStatement c a = KeepsListed c a
Holds what.SingleStatement c a = Keeps c a
Holds what.ForDeclaration c a = KnownDeclaration c
Holds what.Declarator c a = KnownDeclarator c
Holds what.CatchParameter c a = λ n. Unit {0}
Holds what.Expression c a = Known c
Holds what.SequencePart c a = λ e. e < c
Holds what.Body c a = KeepsList c (listed a)
Holds what.Catch c a = KeepsOneCatch c a
Holds what.Case c a = KeepsOne c a
Holds what.CaseAfterDefault c a = KeepsOne c a

-- what the items of a Switch keep besides
abbrev pub Besides : (x : What) → List (Item x) → Type 0
Besides what.ListStatement = λ is. Unit {0}
Besides what.SingleStatement = λ is. Unit {0}
Besides what.ForDeclaration = λ is. Unit {0}
Besides what.Declarator = λ is. Unit {0}
Besides what.CatchParameter = λ is. Unit {0}
Besides what.Expression = λ is. Unit {0}
Besides what.SequencePart = λ is. Unit {0}
Besides what.Body = λ is. Unit {0}
Besides what.Catch = λ is. Unit {0}
Besides what.Case = AtMostOne
Besides what.CaseAfterDefault = All Tested

-- n items of x are read off words, up to the rest of them
pub record Read (c : ℕ) (x : What) (n : ℕ) (a : Around) (ws rest : List Word) : Type 0 where
  pub items : List (Item x)
  pub many : length items ≡ n
  pub words : ws ≡ joined (words_of x) items ++ rest
  pub holds : All (Holds x c a) items
  pub besides : Besides x items

-- one item
pub record One (c : ℕ) (x : What) (a : Around) (ws rest : List Word) : Type 0 where
  pub item : Item x
  pub words : ws ≡ words_of x item ++ rest
  pub holds : Holds x c a item

-- a list of statements, and cases, from their items
abbrev pub to_list : List Listed → Statements
to_list [] = none
to_list (statement s ∷ is) = some s (to_list is)
to_list (letting d ds ∷ is) = Let d ds (to_list is)

abbrev pub to_cases : List OneCase → Cases
to_cases [] = no_case
to_cases (one_case t ss ∷ is) = case t ss (to_cases is)

pub list_words : (is : List Listed) → joined encode_listed is ≡ encode_list (to_list is)
list_words [] = refl
list_words (statement s ∷ is) = ap (λ ws. encode s ++ ws) (list_words is)
list_words (letting d ds ∷ is) = ap (λ ws. encode_let d ds ++ ws) (list_words is)

pub list_count : (is : List Listed) → length is ≡ count (to_list is)
list_count [] = refl
list_count (statement s ∷ is) = ap suc (list_count is)
list_count (letting d ds ∷ is) = ap suc (list_count is)

pub list_keeps : (c : ℕ) (a : Around) (is : List Listed) → All (KeepsListed c a) is → KeepsList c a (to_list is)
list_keeps c a [] h = tt
list_keeps c a (statement s ∷ is) h = (h.0, list_keeps c a is h.1)
list_keeps c a (letting d ds ∷ is) h = (h.0.0, h.0.1, list_keeps c a is h.1)

pub cases_words : (is : List OneCase) → joined encode_one is ≡ encode_cases (to_cases is)
cases_words [] = refl
cases_words (one_case t ss ∷ is) = ap (λ ws. encode_case t ss ++ ws) (cases_words is)

pub cases_count : (is : List OneCase) → length is ≡ count_cases (to_cases is)
cases_count [] = refl
cases_count (one_case t ss ∷ is) = ap suc (cases_count is)

pub cases_keep : (c : ℕ) (a : Around) (is : List OneCase) → All (KeepsOne c a) is → KeepsCases c a (to_cases is)
cases_keep c a [] h = tt
cases_keep c a (one_case t ss ∷ is) h = (h.0.0, h.0.1, h.0.2, cases_keep c a is h.1)

all_tested : (is : List OneCase) → All Tested is → NoDefault (to_cases is)
all_tested [] h = tt
all_tested (one_case None ss ∷ is) h = absurd h.0
all_tested (one_case (Some e) ss ∷ is) h = all_tested is h.1

pub at_most_one : (is : List OneCase) → AtMostOne is → OneDefault (to_cases is)
at_most_one [] h = tt
at_most_one (one_case None ss ∷ is) h = all_tested is h
at_most_one (one_case (Some e) ss ∷ is) h = at_most_one is h
