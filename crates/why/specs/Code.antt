-- What the private functions promise each other: an answer with its calls as words, and their text.
use Rattle.std.specs.Prelude.{ℕ, zero, suc, ◌+◌, ◌≤◌, ◌≡◌, cond, List, [], ◌∷◌, ◌++◌, eqb, length, get_or, drop, Result, Ok, Err}
use Rattle.std.proofs.lemmas.List.Edits.{sets}
use Rattle.number.specs.Answer.{Answer, accepted, refused, alone, number_in, tokens_or}
use Rattle.reading.specs.Answers.{Flattening, flattened}
use Rattle.reading.specs.Explained.{Explanation}
use Rattle.reading.specs.declared.answer.Explained.{Explained}
use Rattle.why.specs.Why.{pair_line, answer_line, call_lines}
use Rattle.why.specs.declared.explaining.Unread.{Unread}
use Rattle.why.specs.declared.explaining.Unread.TheVariants.{TooLong, NoPart}

-- ---- a reply

abbrev pub unread : Unread → Answer Flattening
unread TooLong = refused 27 alone
unread (NoPart why) = refused 28 alone

abbrev pub unread_number : Unread → ℕ
unread_number why = number_in (unread why)

abbrev pub replied : Result Explained Unread → Answer Flattening
replied (Ok e) = flattened e.verdict
replied (Err why) = unread why

abbrev pub calls_in : Result Explained Unread → ℕ
calls_in (Ok e) = e.calls
calls_in (Err why) = 0

-- the tokens that come with an answer, or 0
abbrev pub tokens_in : Answer Flattening → ℕ
tokens_in (accepted x) = x.tokens
tokens_in (refused k v) = tokens_or 0 v

-- ---- text that is put into bytes

-- A text of at most so many bytes is put into l from `at` on: where it ends, and what is left.
pub record Put (l : List ℕ) (at : ℕ) (text : List ℕ) (most end : ℕ) (left : List ℕ) : Type 0 where
  pub ends : end ≡ at + length text
  pub bytes : left ≡ sets l at text
  pub short : end ≤ at + most

-- ---- the text of words

abbrev pub word_letter : ℕ → ℕ
word_letter w = cond (eqb w 0) 76 71

abbrev pub word_line : ℕ → ℕ → ℕ → List ℕ
word_line list entry at = word_letter list ∷ 32 ∷ pair_line entry at

-- the lines of n calls, three words each
unfoldable pub word_lines : ℕ → List ℕ → List ℕ
word_lines zero w = []
word_lines (suc n) w = word_line (get_or w 0 0) (get_or w 1 0) (get_or w 2 0) ++ word_lines n (drop 3 w)

abbrev pub text_of : Answer Flattening → ℕ → List ℕ → List ℕ
text_of answer calls words = answer_line answer ++ word_lines calls words

-- ---- a reply explains: its answer, as many calls, at most 63, and the lines of their words
pub record Explains (x : Explanation) (r : Result Explained Unread) (words : List ℕ) : Type 0 where
  pub answer : replied r ≡ x.answer
  pub few : calls_in r ≤ 63
  pub lines : word_lines (calls_in r) words ≡ call_lines x.calls
