use Rattle.std.proofs.Common.{◌≡◌, ℕ, ◌-◌, List, take, drop, sym, ap, ◌∙◌}
use Rattle.gl_outside.specs.Store.{NamedBytes, bytes_at}
use Rattle.gl_outside.proofs.StoredFiles.{bytes_at-read, range_next}
use Rattle.gl_outside.proofs.mem_files.read_on.Goals as goal

pub returns-clause-bytes : goal.returns-clause-bytes
returns-clause-bytes c =
    let o = c.args.file in
    let bytes = bytes_at c.args.files.now o.place in
    let is : c.stored.inside.bytes.items ≡ bytes =
    ap (λ (f : NamedBytes). f.bytes) c.stored.view_is ∙ sym (bytes_at-read c.args.files.now o.place c.index-files-file.result c.requires.known c.index-files-file.is) in
    let n = c.copy_front-count.result in
    range_next o.at o.end n bytes c.copy_front-count.new.buf c.requires.order
    (c.copy_front-count.ensures.front ∙ ap (λ (bs : List ℕ). take n (take (o.end - o.at) (drop o.at bs))) (c.deref.ensures.value ∙ is))
