use Rattle.std.proofs.Common.{◌≡◌, drop, map, string_bytes}
use Rattle.std.specs.List.{list_any}
use Rattle.mari_reach_commands.specs.Words.{names_workers}
use Rattle.mari_reach_commands.proofs.words.has_workers.Given as goal

-- what is still to come decides
abbrev pub invariant-loop-word : goal.invariant-loop-word
invariant-loop-word l = list_any names_workers (map string_bytes (drop l.word-index l.words)) ≡ list_any names_workers (map string_bytes l.words)
