use Rattle.std.proofs.Common.{◌≡◌, ◌++◌, drop, map}
use Rattle.mari_publish.specs.Texts.{text_of_lines}
use Rattle.mari_lines.specs.declared.line.Line.TheVariants as line
use Rattle.mari_publish.proofs.write.put_providers.Given as goal

-- with the texts of those still to come it is the whole
abbrev pub invariant-loop-provider : goal.invariant-loop-provider
invariant-loop-provider l = l.out.items ++ text_of_lines (map line.Provider (drop l.provider-index l.providers)) ≡ l.fn.out.items ++ text_of_lines (map line.Provider l.providers)
