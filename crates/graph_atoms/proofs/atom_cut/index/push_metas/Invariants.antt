use Rattle.std.proofs.Common.{◌≡◌, ◌++◌, length, take}
use Rattle.std.specs.List.{flat_map}
use Rattle.byteorder.specs.Endian.{big_bytes}
use Rattle.graph_atoms.specs.atom_cut.Index.{meta_bytes}
use Rattle.graph_atoms.proofs.atom_cut.index.push_metas.Given as goal

abbrev pub invariant-loop-meta : goal.invariant-loop-meta
invariant-loop-meta l = l.index.items ≡ l.fn.index.items ++ (big_bytes 4 (length l.metas) ++ flat_map meta_bytes (take l.meta-index l.metas))
