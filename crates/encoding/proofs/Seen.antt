-- A statement by its first word: the kind and number say which constructor it is, but for If and Try, where
-- the number tells. Indexed by kind, so that one clause serves where the kind is known.
use Rattle.std.proofs.Common.{◌≡◌, ℕ, ◌+◌, List, [], ◌∷◌, ◌++◌, length, Option, sym, refl, ap, ◌∙◌, subst₂}
use Rattle.words.specs.declared.word.Kind.{Kind}
use Rattle.words.specs.declared.word.Kind.TheVariants as kind
use Rattle.words.specs.declared.word.Word.{Word}
use Rattle.words.specs.Words.{word, if_alternate, return_value, try_catch, try_finalizer}
use Rattle.words.specs.Tree.{Expression, Declarator, Start}
use Rattle.words.specs.Tree.{Statement, Empty, Break, Continue, Block, Expr, Throw, Var, If, IfElse, For, While, Do, Switch, Label, BreakTo, ContinueTo, Return, TryCatch, TryFinally, TryBoth}
use Rattle.words.specs.Tree.{Statements, Cases}
use Rattle.words.specs.Encode.{encode_expression, encode_optional, encode_declarators, encode_start, flag, for_number, count, count_cases, encode, encode_list, encode_cases, encode_body, encode_catch}

-- the first word's kind and number, the words after it, and the statement
pub data Seen : Kind → ℕ → List Word → Statement → Type 0 where
  seen_Empty : Seen kind.Empty 0 [] Empty
  seen_Break : Seen kind.Break 0 [] Break
  seen_Continue : Seen kind.Continue 0 [] Continue
  seen_Block : (ss : Statements) → Seen kind.Block (count ss) (encode_list ss) (Block ss)
  seen_Expr : (e : Expression) → Seen kind.Expr 0 (encode_expression e) (Expr e)
  seen_Throw : (e : Expression) → Seen kind.Throw 0 (encode_expression e) (Throw e)
  seen_Var : (d : Declarator) (ds : List Declarator) → Seen kind.Var (length (d ∷ ds)) (encode_declarators (d ∷ ds)) (Var d ds)
  seen_If : (e : Expression) (s : Statement) → Seen kind.If 0 (encode_expression e ++ encode s) (If e s)
  seen_IfElse : (e : Expression) (s t : Statement) → Seen kind.If if_alternate (encode_expression e ++ (encode s ++ encode t)) (IfElse e s t)
  seen_For : (i : Start) (t u : Option Expression) (s : Statement) → Seen kind.For (for_number i t u) (encode_start i ++ (encode_optional t ++ (encode_optional u ++ encode s))) (For i t u s)
  seen_While : (e : Expression) (s : Statement) → Seen kind.While 0 (encode_expression e ++ encode s) (While e s)
  seen_Do : (s : Statement) (e : Expression) → Seen kind.Do 0 (encode s ++ encode_expression e) (Do s e)
  seen_Switch : (e : Expression) (cs : Cases) → Seen kind.Switch (count_cases cs) (encode_expression e ++ encode_cases cs) (Switch e cs)
  seen_Label : (l : ℕ) (s : Statement) → Seen kind.Label l (encode s) (Label l s)
  seen_BreakTo : (l : ℕ) → Seen kind.BreakTo l [] (BreakTo l)
  seen_ContinueTo : (l : ℕ) → Seen kind.ContinueTo l [] (ContinueTo l)
  seen_Return : (e : Option Expression) → Seen kind.Return (flag return_value e) (encode_optional e) (Return e)
  seen_TryCatch : (b : Statements) (x : Option ℕ) (c : Statements) → Seen kind.Try try_catch (encode_body b ++ encode_catch x c) (TryCatch b x c)
  seen_TryFinally : (b f : Statements) → Seen kind.Try try_finalizer (encode_body b ++ encode_body f) (TryFinally b f)
  seen_TryBoth : (b : Statements) (x : Option ℕ) (c f : Statements) → Seen kind.Try (try_catch + try_finalizer) (encode_body b ++ (encode_catch x c ++ encode_body f)) (TryBoth b x c f)

pub see : (s : Statement) → (k : Kind) × (n : ℕ) × (body : List Word) × (encode s ≡ word k n ∷ body) × Seen k n body s
see Empty = (_, _, _, refl, seen_Empty)
see Break = (_, _, _, refl, seen_Break)
see Continue = (_, _, _, refl, seen_Continue)
see (Block ss) = (_, _, _, refl, seen_Block ss)
see (Expr e) = (_, _, _, refl, seen_Expr e)
see (Throw e) = (_, _, _, refl, seen_Throw e)
see (Var d ds) = (_, _, _, refl, seen_Var d ds)
see (If e s) = (_, _, _, refl, seen_If e s)
see (IfElse e s t) = (_, _, _, refl, seen_IfElse e s t)
see (For i t u s) = (_, _, _, refl, seen_For i t u s)
see (While e s) = (_, _, _, refl, seen_While e s)
see (Do s e) = (_, _, _, refl, seen_Do s e)
see (Switch e cs) = (_, _, _, refl, seen_Switch e cs)
see (Label l s) = (_, _, _, refl, seen_Label l s)
see (BreakTo l) = (_, _, _, refl, seen_BreakTo l)
see (ContinueTo l) = (_, _, _, refl, seen_ContinueTo l)
see (Return e) = (_, _, _, refl, seen_Return e)
see (TryCatch b x c) = (_, _, _, refl, seen_TryCatch b x c)
see (TryFinally b f) = (_, _, _, refl, seen_TryFinally b f)
see (TryBoth b x c f) = (_, _, _, refl, seen_TryBoth b x c f)

pub record Sight (w : Word) (ws : List Word) (s : Statement) (rest : List Word) : Type 0 where
  pub body : List Word
  pub after : ws ≡ body ++ rest
  pub seen : Seen w.kind w.number body s

-- words that begin with a statement: what it is, by the first word
pub sight : (w : Word) (ws : List Word) (s : Statement) (rest : List Word) → w ∷ ws ≡ encode s ++ rest → Sight w ws s rest
sight w ws s rest e =
    let v = see s in
    let u : w ∷ ws ≡ word v.0 v.1 ∷ (v.2 ++ rest) = e ∙ ap (λ x. x ++ rest) v.3 in
    let h : w ≡ word v.0 v.1 = cc in
    let t : ws ≡ v.2 ++ rest = cc in
    record { body = v.2; after = t; seen = subst₂ (λ k n. Seen k n v.2 s) (sym (ap (λ x. x.kind) h)) (sym (ap (λ x. x.number) h)) v.4 }
