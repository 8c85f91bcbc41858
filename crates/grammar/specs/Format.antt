-- The format as one table, that of docs/FORMAT.md: which kinds may stand where, which numbers each kind may have,
-- which parts follow a word and what is around them. A word and its parts are written one after another.
use Rattle.std.specs.Prelude.{ℕ, zero, suc, ◌+◌, Bool, true, false, cond, List, [], ◌∷◌, ◌==◌, nat_le, slice_index_or}
use Rattle.words.specs.declared.word.Kind.{Kind}
use Rattle.words.specs.declared.word.Kind.TheVariants as kind
use Rattle.words.specs.declared.word.Word.{Word}
use Rattle.grammar.specs.declared.What.{What}
use Rattle.grammar.specs.declared.What.TheVariants.{ListStatement, SingleStatement, ForDeclaration, Declarator, CatchParameter, Expression, SequencePart, Body, Catch, Case, CaseAfterDefault}
use Rattle.grammar.specs.declared.Surroundings.{Surroundings}
use Rattle.grammar.specs.declared.Surroundings.TheVariants.{Same, Nested, LoopBody, SwitchCase, LabelBody}
use Rattle.grammar.specs.declared.Part.{Part}
use Rattle.grammar.specs.declared.Parts.{Parts}
use Rattle.words.specs.Words.{code, from_to, for_expression, for_declaration, for_test, for_update, try_catch, try_finalizer, if_alternate, return_value, has}

-- which kinds may stand in a place
abbrev pub admits : What → Kind → Bool
admits ListStatement k = from_to kind.Empty kind.Try k
admits SingleStatement k = cond (from_to kind.Empty kind.Var k) true (from_to kind.If kind.Try k)
admits ForDeclaration k = from_to kind.Var kind.Let k
admits Declarator k = from_to kind.Name kind.NameInit k
admits CatchParameter k = from_to kind.Name kind.Name k
admits Expression k = from_to kind.Expression kind.Sequence k
admits SequencePart k = from_to kind.Expression kind.Expression k
admits Body k = from_to kind.Body kind.Body k
admits Catch k = from_to kind.Catch kind.CatchName k
admits Case k = from_to kind.Case kind.Default k
admits CaseAfterDefault k = from_to kind.Case kind.Case k

-- a Switch has at most one Default
abbrev pub after : What → Kind → What
after what k = cond (code k == code kind.Default) CaseAfterDefault what

-- statements and cases have a depth
abbrev pub has_depth_lem : What → Bool
has_depth_lem ListStatement = true
has_depth_lem SingleStatement = true
has_depth_lem ForDeclaration = false
has_depth_lem Declarator = false
has_depth_lem CatchParameter = false
has_depth_lem Expression = false
has_depth_lem SequencePart = false
has_depth_lem Body = false
has_depth_lem Catch = false
has_depth_lem Case = true
has_depth_lem CaseAfterDefault = true

-- the number rule: no number but 0 for a kind that has nothing to say by it
abbrev pub allows : Kind → ℕ → Bool
allows kind.Unlisted n = false
allows kind.Empty n = n == 0
allows kind.Block n = true
allows kind.Expr n = n == 0
allows kind.Var n = nat_le 1 n
allows kind.Let n = nat_le 1 n
allows kind.If n = nat_le n if_alternate
allows kind.For n = cond (nat_le n (for_expression + for_declaration + for_test + for_update)) (nat_le (has for_expression n + has for_declaration n) 1) false
allows kind.While n = n == 0
allows kind.Do n = n == 0
allows kind.Switch n = true
allows kind.Label n = true
allows kind.Break n = n == 0
allows kind.BreakTo n = true
allows kind.Continue n = n == 0
allows kind.ContinueTo n = true
allows kind.Return n = nat_le n return_value
allows kind.Throw n = n == 0
allows kind.Try n = cond (nat_le try_catch n) (nat_le n (try_catch + try_finalizer)) false
allows kind.Body n = true
allows kind.Catch n = true
allows kind.CatchName n = true
allows kind.Case n = true
allows kind.Default n = true
allows kind.Expression n = true
allows kind.Sequence n = nat_le 2 n
allows kind.Name n = true
allows kind.NameInit n = true

-- so many parts alike
abbrev pub part : What → ℕ → Surroundings → Part
part what n around = record { what = what; times = n; surroundings = around }

abbrev pub four : Part → Part → Part → Part → Parts
four a b c d = record { first = a; second = b; third = c; fourth = d }

abbrev pub no_part : Part
no_part = part Expression 0 Same

abbrev pub three : Part → Part → Part → Parts
three a b c = four a b c no_part

abbrev pub two : Part → Part → Parts
two a b = four a b no_part no_part

abbrev pub one : Part → Parts
one a = four a no_part no_part no_part

-- the parts of a list, none past its end
abbrev pub parts_in : List Part → Parts
parts_in ps = four (slice_index_or ps 0 no_part) (slice_index_or ps 1 no_part) (slice_index_or ps 2 no_part) (slice_index_or ps 3 no_part)

abbrev pub for_parts_lem : ℕ → Parts
for_parts_lem n =
    four (part Expression (has for_expression n) Same) (part ForDeclaration (has for_declaration n) Same)
    (part Expression (has for_test n + has for_update n) Same) (part SingleStatement 1 LoopBody)

abbrev pub try_parts_lem : ℕ → Parts
try_parts_lem n = three (part Body 1 Nested) (part Catch (has try_catch n) Nested) (part Body (has try_finalizer n) Nested)

-- the parts of a word of this kind and number
abbrev pub parts_of : Kind → ℕ → Parts
parts_of kind.Unlisted n = one no_part
parts_of kind.Empty n = one no_part
parts_of kind.Block n = one (part ListStatement n Nested)
parts_of kind.Expr n = one (part Expression 1 Same)
parts_of kind.Var n = one (part Declarator n Same)
parts_of kind.Let n = one (part Declarator n Same)
parts_of kind.If n = three (part Expression 1 Same) (part SingleStatement 1 Nested) (part SingleStatement n Nested)
parts_of kind.For n = for_parts_lem n
parts_of kind.While n = two (part Expression 1 Same) (part SingleStatement 1 LoopBody)
parts_of kind.Do n = two (part SingleStatement 1 LoopBody) (part Expression 1 Same)
parts_of kind.Switch n = two (part Expression 1 Same) (part Case n SwitchCase)
parts_of kind.Label n = one (part SingleStatement 1 LabelBody)
parts_of kind.Break n = one no_part
parts_of kind.BreakTo n = one no_part
parts_of kind.Continue n = one no_part
parts_of kind.ContinueTo n = one no_part
parts_of kind.Return n = one (part Expression n Same)
parts_of kind.Throw n = one (part Expression 1 Same)
parts_of kind.Try n = try_parts_lem n
parts_of kind.Body n = one (part ListStatement n Same)
parts_of kind.Catch n = one (part ListStatement n Same)
parts_of kind.CatchName n = two (part CatchParameter 1 Same) (part ListStatement n Same)
parts_of kind.Case n = two (part Expression 1 Same) (part ListStatement n Same)
parts_of kind.Default n = one (part ListStatement n Same)
parts_of kind.Expression n = one no_part
parts_of kind.Sequence n = one (part SequencePart n Same)
parts_of kind.Name n = one no_part
parts_of kind.NameInit n = one (part Expression 1 Same)

abbrev pub parts : Word → Parts
parts w = parts_of w.kind w.number

-- how many parts follow a word
abbrev pub part_count : Word → ℕ
part_count w = let p = parts w in p.first.times + p.second.times + p.third.times + p.fourth.times

-- what is left of the words past k parts, nothing where they end before that
abbrev pub skip : ℕ → List Word → List Word
skip zero ws = ws
skip (suc k) [] = []
skip (suc k) (w ∷ ws) = skip (k + part_count w) ws
