-- A script that keeps the rules is accepted, constructor by constructor.
use Rattle.std.proofs.Common.{◌≡◌, ℕ, ◌+◌, ◌<◌, Bool, true, false, cond, not, ltb, leb, List, [], ◌∷◌, ◌++◌, map, length, Some, None, Ok, Option, sym, refl, ap, ◌∙◌, subst, ap₂, append_assoc, append-nil, arith, lt-ltb, le-leb}
use Rattle.words.specs.declared.word.Kind.{Kind}
use Rattle.words.specs.declared.word.Kind.TheVariants as kind
use Rattle.words.specs.declared.word.Word.{Word}
use Rattle.grammar.specs.declared.What.{What}
use Rattle.grammar.specs.declared.What.TheVariants as what
use Rattle.grammar.specs.declared.Surroundings.TheVariants.{Same, Nested, LoopBody, SwitchCase, LabelBody}
use Rattle.words.specs.Words.{word}
use Rattle.grammar.specs.Format.{admits, has_depth_lem, allows, parts, part}
use Rattle.words.specs.Tree.{Expression, expression, Declarator, Name, NameInit, Start, no_start, start_expression, start_var, start_let}
use Rattle.words.specs.Tree.{Statement, Empty, Break, Continue, Block, Expr, Throw, Var, If, IfElse, For, While, Do, Switch, Label, BreakTo, ContinueTo, Return, TryCatch, TryFinally, TryBoth}
use Rattle.words.specs.Tree.{Statements, none, some, Let, Cases, no_case, case}
use Rattle.words.specs.Encode.{encode_expression, encode_optional, encode_declarator, encode_declarators, encode_var, encode_let, encode_start, flag, for_number, count, count_cases, encode, encode_list, encode_cases, encode_body, encode_catch, encode_case}
use Rattle.encoding.proofs.ForNumber.{by_expression, by_declaration, for_has}
use Rattle.checker.specs.Check.{Around, depth_limit, jumps_well, is_known, not_deep, within, check, nowhere, check_script}
use Rattle.slices.specs.Among.{among}
use Rattle.checker.specs.Rules.{inside, loop_body, listed, AllBelow, Known, KnownOptional, KnownDeclarator, KnownDeclarators, KnownStart, NoDefault, OneDefault, NotDeep, Keeps, KeepsList, KeepsCases, Script}
use Rattle.checker.proofs.Eats.{Eats, Done, done, eats_none, eats_join, eats_as, Good, Parted, eats_word, parts_0, parts_1, parts_2, parts_3}

-- a statement of a list, or one that stands alone
abbrev place : Bool → What
place true = what.ListStatement
place false = what.SingleStatement

shallow : (x : What) (a : Around) → NotDeep a → not_deep x a ≡ true
shallow x a h = go (has_depth_lem x)
  where
    go : (b : Bool) → cond b (leb a.depth depth_limit) true ≡ true
    go true = le-leb a.depth depth_limit h
    go false = refl

below : {c e : ℕ} → e < c → ltb e c ≡ true
below {c} {e} h = lt-ltb e c h

eats_parts : {c : ℕ} {a : Around} (es : List ℕ) → AllBelow c es → Eats c what.SequencePart what.SequencePart a (length es) (map (word kind.Expression) es)
eats_parts [] h = eats_none
eats_parts (e ∷ es) h =
    eats_as (eats_join (eats_word (word kind.Expression e) (record { stands = refl; numbered = refl; deep = refl; known = below h.0; jumps = refl }) parts_0) (eats_parts es h.1)) (omega arith)

eats_expression : {c : ℕ} {a : Around} (e : Expression) → Known c e → Eats c what.Expression what.Expression a 1 (encode_expression e)
eats_expression (expression e []) h = eats_word (word kind.Expression e) (record { stands = refl; numbered = refl; deep = refl; known = below h.0; jumps = refl }) parts_0
eats_expression (expression e (d ∷ es)) h =
    eats_word (word kind.Sequence (length (e ∷ d ∷ es))) (record { stands = refl; numbered = le-leb 2 _ (omega arith); deep = refl; known = refl; jumps = refl })
    (parts_1 (part what.SequencePart (length (e ∷ d ∷ es)) Same) (done (eats_parts (e ∷ d ∷ es) h)))

eats_optional : {c : ℕ} {a : Around} (e : Option Expression) → KnownOptional c e → Eats c what.Expression what.Expression a (flag 1 e) (encode_optional e)
eats_optional None h = eats_none
eats_optional (Some e) h = eats_expression e h

eats_declarator : {c : ℕ} {a : Around} (d : Declarator) → KnownDeclarator c d → Eats c what.Declarator what.Declarator a 1 (encode_declarator d)
eats_declarator (Name x) h = eats_word (word kind.Name x) (record { stands = refl; numbered = refl; deep = refl; known = refl; jumps = refl }) parts_0
eats_declarator (NameInit x e) h =
    eats_word (word kind.NameInit x) (record { stands = refl; numbered = refl; deep = refl; known = refl; jumps = refl }) (parts_1 (part what.Expression 1 Same) (done (eats_expression e h)))

eats_declarators : {c : ℕ} {a : Around} (ds : List Declarator) → KnownDeclarators c ds → Eats c what.Declarator what.Declarator a (length ds) (encode_declarators ds)
eats_declarators [] h = eats_none
eats_declarators (d ∷ ds) h = eats_as (eats_join (eats_declarator d h.0) (eats_declarators ds h.1)) (omega arith)

-- a Var or a Let, wherever it may stand
eats_var : {c : ℕ} {a : Around} (x : What) → admits x kind.Var ≡ true → not_deep x a ≡ true → (d : Declarator) (ds : List Declarator) → KnownDeclarators c (d ∷ ds) → Eats c x x a 1 (encode_var d ds)
eats_var x s n d ds h =
    eats_word (word kind.Var (length (d ∷ ds))) (record { stands = s; numbered = le-leb 1 _ (omega arith); deep = n; known = refl; jumps = refl })
    (parts_1 (part what.Declarator (length (d ∷ ds)) Same) (done (eats_declarators (d ∷ ds) h)))

eats_let : {c : ℕ} {a : Around} (x : What) → admits x kind.Let ≡ true → not_deep x a ≡ true → (d : Declarator) (ds : List Declarator) → KnownDeclarators c (d ∷ ds) → Eats c x x a 1 (encode_let d ds)
eats_let x s n d ds h =
    eats_word (word kind.Let (length (d ∷ ds))) (record { stands = s; numbered = le-leb 1 _ (omega arith); deep = n; known = refl; jumps = refl })
    (parts_1 (part what.Declarator (length (d ∷ ds)) Same) (done (eats_declarators (d ∷ ds) h)))

-- the initial parts of a For: an expression or a declaration
abbrev start_words : Start → List Word
start_words no_start = []
start_words (start_expression e) = encode_expression e
start_words (start_var d ds) = []
start_words (start_let d ds) = []

abbrev declaration_words : Start → List Word
declaration_words no_start = []
declaration_words (start_expression e) = []
declaration_words (start_var d ds) = encode_var d ds
declaration_words (start_let d ds) = encode_let d ds

start_split : (i : Start) → encode_start i ≡ start_words i ++ declaration_words i
start_split no_start = refl
start_split (start_expression e) = sym (append-nil (encode_expression e))
start_split (start_var d ds) = refl
start_split (start_let d ds) = refl

eats_start : {c : ℕ} {a : Around} (i : Start) → KnownStart c i → Done c what.Expression a (by_expression i) (start_words i)
eats_start no_start h = done eats_none
eats_start (start_expression e) h = done (eats_expression e h)
eats_start (start_var d ds) h = done eats_none
eats_start (start_let d ds) h = done eats_none

eats_declaration : {c : ℕ} {a : Around} (i : Start) → KnownStart c i → Done c what.ForDeclaration a (by_declaration i) (declaration_words i)
eats_declaration no_start h = done eats_none
eats_declaration (start_expression e) h = done eats_none
eats_declaration (start_var d ds) h = done (eats_var what.ForDeclaration refl refl d ds h)
eats_declaration (start_let d ds) h = done (eats_let what.ForDeclaration refl refl d ds h)

stands_both : (k : Kind) → admits what.ListStatement k ≡ true → admits what.SingleStatement k ≡ true → (b : Bool) → admits (place b) k ≡ true
stands_both k p q true = p
stands_both k p q false = q

-- the tests of a statement's word that no jump rule speaks of
good : {c : ℕ} {a : Around} (b : Bool) (k : Kind) (n : ℕ) → admits what.ListStatement k ≡ true → admits what.SingleStatement k ≡ true → allows k n ≡ true → NotDeep a →
    is_known c k n ≡ true → jumps_well k n a ≡ true → Good c (place b) a (word k n)
good {c} {a} b k n p q m d i j = record { stands = stands_both k p q b; numbered = m; deep = shallow (place b) a d; known = i; jumps = j }

not_among : (b : Bool) → b ≡ false → not b ≡ true
not_among true e = sym e
not_among false e = refl

eats_for : {c : ℕ} (a : Around) (i : Start) (t u : Option Expression) (s : Statement) → KnownStart c i → KnownOptional c t → KnownOptional c u →
    Done c what.SingleStatement (loop_body a) 1 (encode s) →
    Parted c (within (word kind.For (for_number i t u)) a) (parts (word kind.For (for_number i t u))) (encode_start i ++ (encode_optional t ++ (encode_optional u ++ encode s)))
eats_for {c} a i t u s h k l d =
    let f = for_has i t u in
    let A = within (word kind.For (for_number i t u)) a in
    let ts = eats_join (eats_optional t k) (eats_optional u l) in
    record {
      one = start_words i;
      two = declaration_words i;
      three = encode_optional t ++ encode_optional u;
      four = encode s;
      words = ap (λ v. v ++ (encode_optional t ++ (encode_optional u ++ encode s))) (start_split i)
          ∙ append_assoc (start_words i) (declaration_words i) _ ∙ ap (λ v. start_words i ++ (declaration_words i ++ v)) (sym (append_assoc (encode_optional t) (encode_optional u) (encode s)));
      first = subst (λ n. Done c what.Expression A n (start_words i)) (sym f.has_expression) (eats_start i h);
      second = subst (λ n. Done c what.ForDeclaration A n (declaration_words i)) (sym f.has_declaration) (eats_declaration i h);
      third = subst (λ n. Done c what.Expression A n (encode_optional t ++ encode_optional u)) (sym (ap₂ (λ x y. x + y) f.has_test f.has_update)) (done ts);
      fourth = d;
    }

plain : {c : ℕ} {x : What} {a : Around} (k : Kind) (n : ℕ) → admits x k ≡ true → allows k n ≡ true → not_deep x a ≡ true → is_known c k n ≡ true → jumps_well k n a ≡ true → Good c x a (word k n)
plain k n p m d i j = record { stands = p; numbered = m; deep = d; known = i; jumps = j }

-- a Body, a catch and a case, given their statements
abbrev Listed : ℕ → Around → Statements → Type 0
Listed c a ss = Done c what.ListStatement (listed a) (count ss) (encode_list ss)

body_of : {c : ℕ} (a : Around) (ss : Statements) → Listed c a ss → Eats c what.Body what.Body a 1 (encode_body ss)
body_of a ss d = eats_word (word kind.Body (count ss)) (plain kind.Body _ refl refl refl refl refl) (parts_1 (part what.ListStatement (count ss) Same) d)

catch_of : {c : ℕ} (a : Around) (x : Option ℕ) (ss : Statements) → Listed c a ss → Eats c what.Catch what.Catch a 1 (encode_catch x ss)
catch_of a None ss d = eats_word (word kind.Catch (count ss)) (plain kind.Catch _ refl refl refl refl refl) (parts_1 (part what.ListStatement (count ss) Same) d)
catch_of a (Some x) ss d =
    eats_word (word kind.CatchName (count ss)) (plain kind.CatchName _ refl refl refl refl refl)
    (parts_2 (part what.CatchParameter 1 Same) (part what.ListStatement (count ss) Same) (done (eats_word (word kind.Name x) (plain kind.Name x refl refl refl refl refl) parts_0)) d)

case_of : {c : ℕ} (a : Around) (x : What) → admits x kind.Case ≡ true → (e : Expression) (ss : Statements) → NotDeep a → Known c e → Listed c a ss → Eats c x x a 1 (encode_case (Some e) ss)
case_of a x s e ss d k h =
    eats_word (word kind.Case (count ss)) (plain kind.Case _ s refl (shallow x a d) refl refl)
    (parts_2 (part what.Expression 1 Same) (part what.ListStatement (count ss) Same) (done (eats_expression e k)) h)

default_of : {c : ℕ} (a : Around) (ss : Statements) → NotDeep a → Listed c a ss → Eats c what.Case what.CaseAfterDefault a 1 (encode_case None ss)
default_of a ss d h = eats_word (word kind.Default (count ss)) (plain kind.Default _ refl refl (shallow what.Case a d) refl refl) (parts_1 (part what.ListStatement (count ss) Same) h)

for_allowed : (i : Start) (t u : Option Expression) → allows kind.For (for_number i t u) ≡ true
for_allowed no_start None None = refl
for_allowed no_start None (Some u) = refl
for_allowed no_start (Some t) None = refl
for_allowed no_start (Some t) (Some u) = refl
for_allowed (start_expression e) None None = refl
for_allowed (start_expression e) None (Some u) = refl
for_allowed (start_expression e) (Some t) None = refl
for_allowed (start_expression e) (Some t) (Some u) = refl
for_allowed (start_var d ds) None None = refl
for_allowed (start_var d ds) None (Some u) = refl
for_allowed (start_var d ds) (Some t) None = refl
for_allowed (start_var d ds) (Some t) (Some u) = refl
for_allowed (start_let d ds) None None = refl
for_allowed (start_let d ds) None (Some u) = refl
for_allowed (start_let d ds) (Some t) None = refl
for_allowed (start_let d ds) (Some t) (Some u) = refl

mutual
  eats : {c : ℕ} {a : Around} (b : Bool) (s : Statement) → Keeps c a s → Eats c (place b) (place b) a 1 (encode s)
  eats b Empty h = eats_word (word kind.Empty 0) (good b kind.Empty 0 refl refl refl h refl refl) parts_0
  eats b Break h = eats_word (word kind.Break 0) (good b kind.Break 0 refl refl refl h.0 refl h.1) parts_0
  eats b Continue h = eats_word (word kind.Continue 0) (good b kind.Continue 0 refl refl refl h.0 refl h.1) parts_0
  eats b (Block ss) h = eats_word (word kind.Block (count ss)) (good b kind.Block _ refl refl refl h.0 refl refl) (parts_1 (part what.ListStatement (count ss) Nested) (done (eats_list ss h.1)))
  eats b (Expr e) h = eats_word (word kind.Expr 0) (good b kind.Expr 0 refl refl refl h.0 refl refl) (parts_1 (part what.Expression 1 Same) (done (eats_expression e h.1)))
  eats b (Throw e) h = eats_word (word kind.Throw 0) (good b kind.Throw 0 refl refl refl h.0 refl refl) (parts_1 (part what.Expression 1 Same) (done (eats_expression e h.1)))
  eats {c} {a} b (Var d ds) h = eats_var (place b) (stands_both kind.Var refl refl b) (shallow (place b) a h.0) d ds h.1
  eats {c} {a} b (If e s) h =
      subst (λ ws. Eats c (place b) (place b) a 1 (word kind.If 0 ∷ encode_expression e ++ ws)) (append-nil (encode s))
      (eats_word (word kind.If 0) (good b kind.If 0 refl refl refl h.0 refl refl)
      (parts_3 (part what.Expression 1 Same) (part what.SingleStatement 1 Nested) (part what.SingleStatement 0 Nested) (done (eats_expression e h.1)) (done (eats false s h.2)) (done eats_none)))
  eats b (IfElse e s t) h =
      eats_word (word kind.If 1) (good b kind.If 1 refl refl refl h.0 refl refl)
      (parts_3 (part what.Expression 1 Same) (part what.SingleStatement 1 Nested) (part what.SingleStatement 1 Nested) (done (eats_expression e h.1)) (done (eats false s h.2)) (done (eats false t h.3)))
  eats {c} {a} b (For i t u s) h =
      eats_word (word kind.For (for_number i t u)) (good b kind.For (for_number i t u) refl refl (for_allowed i t u) h.0 refl refl) (eats_for a i t u s h.1 h.2 h.3 (done (eats false s h.4)))
  eats b (While e s) h =
      eats_word (word kind.While 0) (good b kind.While 0 refl refl refl h.0 refl refl) (parts_2 (part what.Expression 1 Same) (part what.SingleStatement 1 LoopBody) (done (eats_expression e h.1)) (done (eats false s h.2)))
  eats b (Do s e) h =
      eats_word (word kind.Do 0) (good b kind.Do 0 refl refl refl h.0 refl refl) (parts_2 (part what.SingleStatement 1 LoopBody) (part what.Expression 1 Same) (done (eats false s h.1)) (done (eats_expression e h.2)))
  eats {c} {a} b (Switch e cs) h =
      eats_word (word kind.Switch (count_cases cs)) (good b kind.Switch _ refl refl refl h.0 refl refl)
      (parts_2 (part what.Expression 1 Same) (part what.Case (count_cases cs) SwitchCase) (done (eats_expression e h.1)) (done (eats_first cs h.2 h.3).1))
  eats {c} {a} b (Label l s) h =
      eats_word (word kind.Label l) (good b kind.Label l refl refl refl h.0 refl (not_among (among l a.labels) h.1)) (parts_1 (part what.SingleStatement 1 LabelBody) (done (eats false s h.2)))
  eats b (BreakTo l) h = eats_word (word kind.BreakTo l) (good b kind.BreakTo l refl refl refl h.0 refl h.1) parts_0
  eats b (ContinueTo l) h = eats_word (word kind.ContinueTo l) (good b kind.ContinueTo l refl refl refl h.0 refl h.1) parts_0
  eats b (Return None) h = eats_word (word kind.Return 0) (good b kind.Return 0 refl refl refl h.0 refl refl) (parts_1 (part what.Expression 0 Same) (done eats_none))
  eats b (Return (Some e)) h = eats_word (word kind.Return 1) (good b kind.Return 1 refl refl refl h.0 refl refl) (parts_1 (part what.Expression 1 Same) (done (eats_expression e h.1)))
  eats {c} {a} b (TryCatch ss x cs) h =
      subst (λ ws. Eats c (place b) (place b) a 1 (word kind.Try 1 ∷ encode_body ss ++ ws)) (append-nil (encode_catch x cs))
      (eats_word (word kind.Try 1) (good b kind.Try 1 refl refl refl h.0 refl refl)
      (parts_3 (part what.Body 1 Nested) (part what.Catch 1 Nested) (part what.Body 0 Nested) (done (body_of (inside a) ss (done (eats_list ss h.1)))) (done (catch_of (inside a) x cs (done (eats_list cs h.2)))) (done eats_none)))
  eats {c} {a} b (TryFinally ss fs) h =
      eats_word (word kind.Try 2) (good b kind.Try 2 refl refl refl h.0 refl refl)
      (parts_3 (part what.Body 1 Nested) (part what.Catch 0 Nested) (part what.Body 1 Nested) (done (body_of (inside a) ss (done (eats_list ss h.1)))) (done eats_none) (done (body_of (inside a) fs (done (eats_list fs h.2)))))
  eats {c} {a} b (TryBoth ss x cs fs) h =
      eats_word (word kind.Try 3) (good b kind.Try 3 refl refl refl h.0 refl refl)
      (parts_3 (part what.Body 1 Nested) (part what.Catch 1 Nested) (part what.Body 1 Nested) (done (body_of (inside a) ss (done (eats_list ss h.1)))) (done (catch_of (inside a) x cs (done (eats_list cs h.2)))) (done (body_of (inside a) fs (done (eats_list fs h.3)))))

  eats_list : {c : ℕ} {a : Around} (ss : Statements) → KeepsList c a ss → Eats c what.ListStatement what.ListStatement a (count ss) (encode_list ss)
  eats_list none h = eats_none
  eats_list (some s ss) h = eats_as (eats_join (eats true s h.0) (eats_list ss h.1)) (omega arith)
  eats_list {c} {a} (Let d ds ss) h = eats_as (eats_join (eats_let what.ListStatement refl (shallow what.ListStatement a h.0) d ds h.1) (eats_list ss h.2)) (omega arith)

  eats_later : {c : ℕ} {a : Around} (cs : Cases) → KeepsCases c a cs → NoDefault cs → Eats c what.CaseAfterDefault what.CaseAfterDefault a (count_cases cs) (encode_cases cs)
  eats_later no_case h n = eats_none
  eats_later (case None ss cs) h n = absurd n
  eats_later {c} {a} (case (Some e) ss cs) h n =
      eats_as (eats_join (case_of a what.CaseAfterDefault refl e ss h.0 h.1 (done (eats_list ss h.2))) (eats_later cs h.3 n)) (omega arith)

  eats_first : {c : ℕ} {a : Around} (cs : Cases) → KeepsCases c a cs → OneDefault cs → (y : What) × Eats c what.Case y a (count_cases cs) (encode_cases cs)
  eats_first no_case h n = (what.Case, eats_none)
  eats_first {c} {a} (case None ss cs) h n =
      (what.CaseAfterDefault, eats_as (eats_join (default_of a ss h.0 (done (eats_list ss h.2))) (eats_later cs h.3 n)) (omega arith))
  eats_first {c} {a} (case (Some e) ss cs) h n =
      let r = eats_first cs h.3 n in
      (r.0, eats_as (eats_join (case_of a what.Case refl e ss h.0 h.1 (done (eats_list ss h.2))) r.1) (omega arith))

pub kept_accepted : (c : ℕ) (ws : List Word) → Script c ws → check_script c ws ≡ Ok tt
unfolding check
kept_accepted c ws (ss, h, e) =
    let b : Eats c what.Body what.Body nowhere 1 (encode_body ss) = body_of nowhere ss (done (eats_list ss h)) in
    ap (check_script c) (e ∙ sym (append-nil (encode_body ss))) ∙ (done b).all [] [] 0
