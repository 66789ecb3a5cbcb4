use Rattle.std.proofs.Common.{◌≡◌, ◌++◌, take}
use Rattle.std.specs.List.{flat_map}
use Rattle.store.specs.store_format.Encoding.{section_bytes}
use Rattle.store.proofs.store_format.encoding.push_sections.Given as goal

abbrev pub invariant-loop-part : goal.invariant-loop-part
invariant-loop-part l = l.bytes.items ≡ l.initial.bytes.items ++ flat_map section_bytes (take l.part-index l.sections)
