use Rattle.std.proofs.Common.{◌≡◌, ◌<◌, IfSome, None, take, fold}
use Rattle.std.specs.Option.{option_map}
use Rattle.gl_outside.specs.Store.{bytes_at, newer}
use Rattle.gl_outside.proofs.mem_files.newest.Given as goal

abbrev pub invariant-loop-place : goal.invariant-loop-place
invariant-loop-place l = record {
  inside : IfSome l.found (λ place. place < l.place);
  bytes : option_map (bytes_at l.files) l.found ≡ fold (newer l.name) None (take l.place l.files);
}
