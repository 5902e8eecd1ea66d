use Rattle.std.proofs.Common.{◌≡◌, ◌<◌, ℕ, get_or}
use Rattle.mari_lines.specs.declared.line.Keyword.{Keyword}
use Rattle.mari_lines.specs.Spelling.{keyword_text}
use Rattle.mari_lines.proofs.Keywords.{keywords}
use Rattle.mari_lines.proofs.reading.keyword.keyword_of.Given as goal

-- none of the keywords so far is written so
abbrev pub invariant-loop-keyword : goal.invariant-loop-keyword
invariant-loop-keyword l = record {
  all : l.keyword-items ≡ keywords;
  none : (k : ℕ) (d : Keyword) → k < l.keyword-index → keyword_text (get_or keywords k d) ≡ l.fn.text → ⊥;
}
