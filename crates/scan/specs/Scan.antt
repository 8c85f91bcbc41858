-- What a scan over words tells of the trees that the words begin with: where a part ends, and that there is
-- one tree at most. The words of a tree say where it ends (docs/FORMAT.md, "Words"), so what comes after is free.
use Rattle.std.specs.Prelude.{◌≡◌, ℕ, ◌+◌, ◌-◌, List, ◌++◌, length, drop, Option}
use Rattle.words.specs.declared.word.Word.{Word}
use Rattle.grammar.specs.Format.{skip}
use Rattle.words.specs.Tree.{Expression, Statements}
use Rattle.words.specs.Encode.{encode_expression, encode_declarator, encode, encode_body, encode_case}

-- a test, or none for Default, and the statements of a case
abbrev pub OneCase : Type 0
OneCase = Option Expression × Statements

abbrev pub encode_one_case : OneCase → List Word
encode_one_case c = encode_case c.0 c.1

-- the word after the part that begins at `at`, the end of the words where they end before that
abbrev pub end_from : List Word → ℕ → ℕ
end_from ws at = at + (length (drop at ws) - length (skip 1 (drop at ws)))

-- a tree that the words from `at` on begin with ends at r
abbrev pub EndsAt : {Tree : Type 0} → (Tree → List Word) → List Word → ℕ → ℕ → Type 0
EndsAt {Tree} words_of ws at r = (t : Tree) (rest : List Word) → drop at ws ≡ words_of t ++ rest → r ≡ at + length (words_of t)

pub record Ends (ws : List Word) (at r : ℕ) : Type 0 where
  pub statement : EndsAt encode ws at r
  pub body : EndsAt encode_body ws at r
  pub one_case : EndsAt encode_one_case ws at r
  pub declarator : EndsAt encode_declarator ws at r
  pub expression : EndsAt encode_expression ws at r

-- two trees that the words begin with are the same, and so are the words after them
abbrev pub OneTree : {Tree : Type 0} → (Tree → List Word) → List Word → Type 0
OneTree {Tree} words_of ws = (s t : Tree) (p q : List Word) → ws ≡ words_of s ++ p → ws ≡ words_of t ++ q → (s ≡ t) × (p ≡ q)

pub record Unique (ws : List Word) : Type 0 where
  pub statement : OneTree encode ws
  pub body : OneTree encode_body ws
  pub one_case : OneTree encode_one_case ws
  pub declarator : OneTree encode_declarator ws
  pub expression : OneTree encode_expression ws
