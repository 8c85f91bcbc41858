-- The parts of a word, read off the words after it: one of a kind, none, a list, declarators, a test.
use Rattle.std.proofs.Common.{◌≡◌, ℕ, zero, suc, ◌+◌, ◌*◌, ◌<◌, ◌≤◌, List, [], ◌∷◌, ◌++◌, map, length, Some, None, Option, sym, refl, ap, ◌∙◌, ap₂, append_assoc, append-nil, arith}
use Rattle.words.specs.declared.word.Kind.{Kind}
use Rattle.words.specs.declared.word.Kind.TheVariants as kind
use Rattle.words.specs.declared.word.Word.{Word}
use Rattle.grammar.specs.declared.What.{What}
use Rattle.grammar.specs.declared.What.TheVariants as what
use Rattle.grammar.specs.declared.Part.{Part}
use Rattle.grammar.specs.declared.Parts.{Parts}
use Rattle.words.specs.Words.{word, for_test, for_update}
use Rattle.grammar.specs.Format as format
use Rattle.words.specs.Tree.{Expression, expression, Declarator, Start, no_start, start_expression, start_var, start_let, Statements, Cases}
use Rattle.words.specs.Encode.{encode_expression, encode_optional, encode_declarator, encode_declarators, encode_start, flag, start_flag, count, count_cases, encode_list, encode_cases}
use Rattle.checker.specs.Check.{Around, surround}
use Rattle.checker.specs.Rules.{AllBelow, Known, KnownOptional, KnownDeclarator, KnownDeclarators, KnownStart, OneDefault, KeepsList, KeepsCases}
use Rattle.checker.proofs.Items.{Declaration, by_var, by_let, encode_declaration, KnownDeclaration, All, joined, Item, words_of, Holds, Read, One, to_list, to_cases, list_words, list_count, list_keeps, cases_words, cases_count, cases_keep, at_most_one}

pub nothing : {c : ℕ} {x : What} {a : Around} {u v : List Word} → Read c x 0 a u v → u ≡ v
nothing {c} {x} {a} {u} {v} r = go r.items r.many r.words
  where
    go : (is : List (Item x)) → length is ≡ 0 → u ≡ joined (words_of x) is ++ v → u ≡ v
    go [] n e = e
    go (i ∷ is) n e = absurd (omega arith)

pub only : {c : ℕ} {x : What} {a : Around} {u v : List Word} → Read c x 1 a u v → One c x a u v
only {c} {x} {a} {u} {v} r = go r.items r.many r.words r.holds
  where
    go : (is : List (Item x)) → length is ≡ 1 → u ≡ joined (words_of x) is ++ v → All (Holds x c a) is → One c x a u v
    go [] n e h = absurd (omega arith)
    go (i ∷ []) n e h = record { item = i; words = e ∙ ap (λ ws. ws ++ v) (append-nil (words_of x i)); holds = h.0 }
    go (i ∷ j ∷ is) n e h = absurd (omega arith)

-- the statements of a list, and the cases of a Switch
pub record ListRead (c n : ℕ) (a : Around) (u v : List Word) : Type 0 where
  pub list : Statements
  pub many : n ≡ count list
  pub words : u ≡ encode_list list ++ v
  pub keeps : KeepsList c a list

pub a_list : {c n : ℕ} {a : Around} {u v : List Word} → Read c what.ListStatement n a u v → ListRead c n a u v
a_list {c} {n} {a} {u} {v} r = record {
  list = to_list r.items;
  many = sym r.many ∙ list_count r.items;
  words = r.words ∙ ap (λ ws. ws ++ v) (list_words r.items);
  keeps = list_keeps c a r.items r.holds;
}

pub record CasesRead (c n : ℕ) (a : Around) (u v : List Word) : Type 0 where
  pub cases : Cases
  pub many : n ≡ count_cases cases
  pub words : u ≡ encode_cases cases ++ v
  pub keeps : KeepsCases c a cases
  pub default : OneDefault cases

pub the_cases : {c n : ℕ} {a : Around} {u v : List Word} → Read c what.Case n a u v → CasesRead c n a u v
the_cases {c} {n} {a} {u} {v} r = record {
  cases = to_cases r.items;
  many = sym r.many ∙ cases_count r.items;
  words = r.words ∙ ap (λ ws. ws ++ v) (cases_words r.items);
  keeps = cases_keep c a r.items r.holds;
  default = at_most_one r.items r.besides;
}

-- one declarator or more
pub record DeclaratorsRead (c n : ℕ) (u v : List Word) : Type 0 where
  pub first : Declarator
  pub others : List Declarator
  pub many : n ≡ length (first ∷ others)
  pub words : u ≡ encode_declarators (first ∷ others) ++ v
  pub known : KnownDeclarators c (first ∷ others)

declarators_words : (ds : List Declarator) → joined encode_declarator ds ≡ encode_declarators ds
declarators_words [] = refl
declarators_words (d ∷ ds) = ap (λ ws. encode_declarator d ++ ws) (declarators_words ds)

declarators_known : (c : ℕ) (ds : List Declarator) → All (KnownDeclarator c) ds → KnownDeclarators c ds
declarators_known c [] h = tt
declarators_known c (d ∷ ds) h = (h.0, declarators_known c ds h.1)

pub declarators : {c n : ℕ} {a : Around} {u v : List Word} → 1 ≤ n → Read c what.Declarator n a u v → DeclaratorsRead c n u v
declarators {c} {n} {a} {u} {v} l r = go r.items r.many r.words r.holds
  where
    go : (ds : List Declarator) → length ds ≡ n → u ≡ joined encode_declarator ds ++ v → All (KnownDeclarator c) ds → DeclaratorsRead c n u v
    go [] m e h = absurd (omega arith)
    go (d ∷ ds) m e h = record { first = d; others = ds; many = sym m; words = e ∙ ap (λ ws. ws ++ v) (declarators_words (d ∷ ds)); known = declarators_known c (d ∷ ds) h }

-- the parts of a Sequence
parts_words : (es : List ℕ) → joined (λ e. word kind.Expression e ∷ []) es ≡ map (word kind.Expression) es
parts_words [] = refl
parts_words (e ∷ es) = ap (λ ws. word kind.Expression e ∷ ws) (parts_words es)

parts_below : (c : ℕ) (es : List ℕ) → All (λ e. e < c) es → AllBelow c es
parts_below c [] h = tt
parts_below c (e ∷ es) h = (h.0, parts_below c es h.1)

-- the word of a kind before other words
pub after_word : (k : Kind) {m n : ℕ} {xs ys : List Word} → m ≡ n → xs ≡ ys → word k m ∷ xs ≡ word k n ∷ ys
after_word k e f = λ i. word k (e i) ∷ f i

pub a_sequence : {c n : ℕ} {a : Around} {u v : List Word} → 2 ≤ n → Read c what.SequencePart n a u v → One c what.Expression a (word kind.Sequence n ∷ u) v
a_sequence {c} {n} {a} {u} {v} l r = go r.items r.many r.words r.holds
  where
    go : (es : List ℕ) → length es ≡ n → u ≡ joined (λ e. word kind.Expression e ∷ []) es ++ v → All (λ e. e < c) es → One c what.Expression a (word kind.Sequence n ∷ u) v
    go [] m e h = absurd (omega arith)
    go (x ∷ []) m e h = absurd (omega arith)
    go (x ∷ y ∷ es) m e h = record {
      item = expression x (y ∷ es);
      words = after_word kind.Sequence (sym m) (e ∙ ap (λ ws. ws ++ v) (parts_words (x ∷ y ∷ es)));
      holds = parts_below c (x ∷ y ∷ es) h;
    }

-- an expression that may be absent
pub record OptionalRead (c n : ℕ) (u v : List Word) : Type 0 where
  pub test : Option Expression
  pub many : n ≡ flag 1 test
  pub words : u ≡ encode_optional test ++ v
  pub known : KnownOptional c test

pub optional : {c n : ℕ} {a : Around} {u v : List Word} → n ≤ 1 → Read c what.Expression n a u v → OptionalRead c n u v
optional {c} {n} {a} {u} {v} l r = go r.items r.many r.words r.holds
  where
    go : (es : List Expression) → length es ≡ n → u ≡ joined encode_expression es ++ v → All (Known c) es → OptionalRead c n u v
    go [] m e h = record { test = None; many = sym m; words = e; known = tt }
    go (x ∷ []) m e h = record { test = Some x; many = sym m; words = e ∙ ap (λ ws. ws ++ v) (append-nil (encode_expression x)); known = h.0 }
    go (x ∷ y ∷ es) m e h = absurd (omega arith)

-- a test and an update, either of which may be absent
pub record TailRead (c a b : ℕ) (u v : List Word) : Type 0 where
  pub test : Option Expression
  pub update : Option Expression
  pub many : flag for_test test + flag for_update update ≡ 4 * a + 8 * b
  pub words : u ≡ encode_optional test ++ (encode_optional update ++ v)
  pub test_known : KnownOptional c test
  pub update_known : KnownOptional c update

pub tail : {c : ℕ} {s : Around} {u v : List Word} (a b : ℕ) → a ≤ 1 → b ≤ 1 → Read c what.Expression (a + b) s u v → TailRead c a b u v
tail {c} {s} {u} {v} a b k l r = go a k r.items r.many r.words r.holds
  where
    go : (a : ℕ) → a ≤ 1 → (es : List Expression) → length es ≡ a + b → u ≡ joined encode_expression es ++ v → All (Known c) es → TailRead c a b u v
    go a k [] m e h = record { test = None; update = None; many = omega arith; words = e; test_known = tt; update_known = tt }
    go zero k (x ∷ []) m e h = record { test = None; update = Some x; many = omega arith; words = e ∙ ap (λ ws. ws ++ v) (append-nil (encode_expression x)); test_known = tt; update_known = h.0 }
    go (suc a) k (x ∷ []) m e h = record { test = Some x; update = None; many = omega arith; words = e ∙ ap (λ ws. ws ++ v) (append-nil (encode_expression x)); test_known = h.0; update_known = tt }
    go a k (x ∷ y ∷ []) m e h = record {
      test = Some x;
      update = Some y;
      many = omega arith;
      words = e ∙ ap (λ ws. (encode_expression x ++ ws) ++ v) (append-nil (encode_expression y)) ∙ append_assoc (encode_expression x) (encode_expression y) v;
      test_known = h.0;
      update_known = h.1.0;
    }
    go a k (x ∷ y ∷ z ∷ es) m e h = absurd (omega arith)

-- how a For begins: by an expression, a declaration, or neither
pub record StartRead (c a b : ℕ) (u w : List Word) : Type 0 where
  pub begin : Start
  pub many : start_flag begin ≡ a + 2 * b
  pub words : u ≡ encode_start begin ++ w
  pub known : KnownStart c begin

pub a_start : {c : ℕ} {s t : Around} {u v w : List Word} (a b : ℕ) → a + b ≤ 1 → Read c what.Expression a s u v → Read c what.ForDeclaration b t v w → StartRead c a b u w
a_start {c} {s} {t} {u} {v} {w} a b l p q = go p.items p.many p.words p.holds q.items q.many q.words q.holds
  where
    go : (es : List Expression) → length es ≡ a → u ≡ joined encode_expression es ++ v → All (Known c) es →
        (ds : List Declaration) → length ds ≡ b → v ≡ joined encode_declaration ds ++ w → All (KnownDeclaration c) ds → StartRead c a b u w
    go [] m e h [] n f k = record { begin = no_start; many = omega arith; words = e ∙ f; known = tt }
    go [] m e h (by_var d ds ∷ []) n f k = record { begin = start_var d ds; many = omega arith; words = e ∙ f ∙ ap (λ ws. ws ++ w) (append-nil (encode_declaration (by_var d ds))); known = k.0 }
    go [] m e h (by_let d ds ∷ []) n f k = record { begin = start_let d ds; many = omega arith; words = e ∙ f ∙ ap (λ ws. ws ++ w) (append-nil (encode_declaration (by_let d ds))); known = k.0 }
    go [] m e h (d ∷ d' ∷ ds) n f k = absurd (omega arith)
    go (x ∷ []) m e h [] n f k = record { begin = start_expression x; many = omega arith; words = e ∙ ap₂ (λ xs ys. xs ++ ys) (append-nil (encode_expression x)) f; known = h.0 }
    go (x ∷ []) m e h (d ∷ ds) n f k = absurd (omega arith)
    go (x ∷ y ∷ es) m e h ds n f k = absurd (omega arith)

-- the four runs of parts after a word
pub record PartsRead (c : ℕ) (a : Around) (p : Parts) (ws rest : List Word) : Type 0 where
  pub two : List Word
  pub three : List Word
  pub four : List Word
  pub first : Read c p.first.what p.first.times (surround p.first.surroundings a) ws two
  pub second : Read c p.second.what p.second.times (surround p.second.surroundings a) two three
  pub third : Read c p.third.what p.third.times (surround p.third.surroundings a) three four
  pub fourth : Read c p.fourth.what p.fourth.times (surround p.fourth.surroundings a) four rest

pub none_read : {c : ℕ} {a : Around} {ws rest : List Word} → PartsRead c a (format.one format.no_part) ws rest → ws ≡ rest
none_read p = nothing p.first ∙ nothing p.second ∙ nothing p.third ∙ nothing p.fourth

pub one_read : {c : ℕ} {a : Around} (q : Part) {ws rest : List Word} (p : PartsRead c a (format.one q) ws rest) → p.two ≡ rest
one_read q p = nothing p.second ∙ nothing p.third ∙ nothing p.fourth

pub two_read : {c : ℕ} {a : Around} (q r : Part) {ws rest : List Word} (p : PartsRead c a (format.two q r) ws rest) → p.three ≡ rest
two_read q r p = nothing p.third ∙ nothing p.fourth
