use Rattle.std.proofs.Common.{◌≡◌, [], ◌∷◌, ◌++◌, ap, ◌∙◌, rules}
use Rattle.gl_outside.specs.FilesState.{written_of}
use Rattle.gl_outside.specs.Store.{StoreState, NamedBytes, bytes_of, files_of_store}
use Rattle.std.specs.Prelude.{vec_capacity}
use Rattle.gl_outside.proofs.Sinks.{written-put}
use Rattle.gl_outside.proofs.StoredFiles.{bytes_of_put, bytes_of_other, map-left_in-append}
use Rattle.gl_outside.proofs.mem_files.MemFiles.put.Goals as goal

pub returns-clause-gives : goal.returns-clause-gives
returns-clause-gives c =
    let file : NamedBytes = record { name = c.in_ok-name.name; bytes = c.args.bytes.items; ready = vec_capacity c.args.bytes } in
    let grown : c.push.new.self.items ≡ c.self.inside.files.items ++ file ∷ [] = search rules in
    bytes_of_put c.self.inside.files.items c.push.new.self.items file c.args.name.now grown c.in_ok-name.ensures

pub returns-clause-others : goal.returns-clause-others
returns-clause-others c = λ other apart.
    let file : NamedBytes = record { name = c.in_ok-name.name; bytes = c.args.bytes.items; ready = vec_capacity c.args.bytes } in
    let grown : c.push.new.self.items ≡ c.self.inside.files.items ++ file ∷ [] = search rules in
    bytes_of_other c.self.inside.files.items c.push.new.self.items file c.args.name.now other grown c.in_ok-name.ensures apart
    ∙ ap (λ (s : StoreState). bytes_of s.files other) c.self.view_is

pub returns-clause-opened : goal.returns-clause-opened
returns-clause-opened c =
    let file : NamedBytes = record { name = c.in_ok-name.name; bytes = c.args.bytes.items; ready = vec_capacity c.args.bytes } in
    let grown : c.push.new.self.items ≡ c.self.inside.files.items ++ file ∷ [] = search rules in
    rw grown
    (map-left_in-append c.self.inside.files.items (file ∷ []) c.self.inside.opened.items c.self.invariant.0 ∙ ap (λ (s : StoreState). s.opened) c.self.view_is)

pub returns-clause-written : goal.returns-clause-written
returns-clause-written c number =
    let file : NamedBytes = record { name = c.in_ok-name.name; bytes = c.args.bytes.items; ready = vec_capacity c.args.bytes } in
    let grown : c.push.new.self.items ≡ c.self.inside.files.items ++ file ∷ [] = search rules in
    let sinks = c.self.inside.sinks.items in
    written-put c.self.inside.files.items c.push.new.self.items file sinks number grown c.self.invariant.1.known
    ∙ ap (λ (s : StoreState). written_of (files_of_store s) number) c.self.view_is
