-- What a load answers: the first refusal that holds, in the order of their numbers, or a new record.
use Rattle.std.specs.Prelude.{ℕ, ◌*◌, cond, ◌||◌, List, map, length, take, Ok, Err, Result, ◌==◌, nat_lt}
use Rattle.words.specs.declared.word.Word.{Word}
use Rattle.words.specs.Words.{read_word, max_words}
use Rattle.scan.specs.Weight.{weight_words}
use Rattle.checker.specs.Check.{Verdict, check_script}
use Rattle.faults.specs.declared.call.CallFault.{CallFault}
use Rattle.faults.specs.declared.call.CallFault.TheVariants.{Used, TooLong, WorkingWords, Labels, Tree}
use Rattle.calls.specs.declared.record.Record.{Record}

-- how many working words there must be for each word used, and how many labels to drop there may be
abbrev pub working_share : ℕ
working_share = 4

abbrev pub most_labels : ℕ
most_labels = 16

-- refusals 1 to 4: the lengths of the space, of what is used, of the working words and of the labels
abbrev pub lengths_refused : ℕ → ℕ → ℕ → ℕ → Result (Unit {0}) CallFault
lengths_refused space used working labels =
    cond (used == 0 || nat_lt space used) (Err (Used used))
    (cond (nat_lt max_words used) (Err (TooLong used))
    (cond (nat_lt working (working_share * used)) (Err (WorkingWords working))
    (cond (nat_lt most_labels labels) (Err (Labels labels)) (Ok tt))))

-- the words of the script in its space
abbrev pub script_words : ℕ → List ℕ → List Word
script_words used space = map read_word (take used space)

-- refusals 5 to 10, after those
abbrev pub checked : Result (Unit {0}) CallFault → Verdict → Result (Unit {0}) CallFault
checked (Err f) v = Err f
checked (Ok x) (Err f) = Err (Tree f)
checked (Ok x) (Ok y) = Ok tt

abbrev pub script_refused : ℕ → List ℕ → ℕ → ℕ → ℕ → Result (Unit {0}) CallFault
script_refused count space used working labels =
    checked (lengths_refused (length space) used working labels) (check_script count (script_words used space))

abbrev pub recorded : Result (Unit {0}) CallFault → Record → Result Record CallFault
recorded (Err f) r = Err f
recorded (Ok x) r = Ok r

-- a new record: nothing changed so far
abbrev pub new_record : List ℕ → ℕ → Record
new_record space used = record { used = used; weight = weight_words (script_words used space); changes = 0 }

abbrev pub load_answer : ℕ → List ℕ → ℕ → ℕ → ℕ → Result Record CallFault
load_answer count space used working labels = recorded (script_refused count space used working labels) (new_record space used)
