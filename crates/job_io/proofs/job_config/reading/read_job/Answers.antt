-- The bytes are a text, and `serde_json` reads it.
use Rattle.std.proofs.Common.{◌≡◌, ◌∙◌, ◌≤◌, Bool, Err, List, None, Option, Some, ap, cond, false, le-ltb, length, refl, sym, true, ℕ}
use Rattle.std.specs.Str.{IsUtf8, is_utf8}
use Rattle.std.proofs.lemmas.Result.{IfOk-weaker}
use Rattle.std.proofs.lemmas.Str.{IsUtf8-from_is_utf8, is_utf8-from_IsUtf8}
use Rattle.gl_base.specs.declared.job_faults.JobFault.TheVariants.{NotJson, TooLong}
use Rattle.serde_json.specs.Data.{Data}
use Rattle.serde_json.specs.Read.{read}
use Rattle.serde_json.specs.View.{view}
use Rattle.job_io.specs.job_config.Jobs.{job_of, job_of_json, json_of}
use Rattle.job_io.proofs.job_config.reading.read_job.Goals as goal

short : (bytes : List ℕ) (o : Option Data) → length bytes ≤ 1048576 → json_of bytes ≡ o → job_of bytes ≡ job_of_json o
short bytes o small e = ap (λ b. cond b (Err TooLong) (job_of_json (json_of bytes))) (le-ltb 1048576 (length bytes) small) ∙ ap job_of_json e

no_text : (bytes : List ℕ) → (IsUtf8 bytes → ⊥) → json_of bytes ≡ None
no_text bytes not = go (is_utf8 bytes) refl
  where
    go : (b : Bool) → is_utf8 bytes ≡ b → cond b (read bytes) None ≡ None
    go true e = absurd (not (IsUtf8-from_is_utf8 bytes e))
    go false e = refl

text_value : (bytes : List ℕ) → IsUtf8 bytes → json_of bytes ≡ read bytes
text_value bytes utf8 = ap (λ b. cond b (read bytes) None) (is_utf8-from_IsUtf8 bytes utf8)

pub returns-in_default-clause-fault : goal.returns-in_default-clause-fault
returns-in_default-clause-fault c = λ f is.
    let same : NotJson ≡ f = cc in
    short c.args.bytes.now None c.if-bytes-gt-MAX_JOB_BYTES.false (no_text c.args.bytes.now c.in_default.ensures.cases.0) ∙ ap Err same

pub returns-in-Ok-from_str-clause-job : goal.returns-in-Ok-from_str-clause-job
returns-in-Ok-from_str-clause-job c =
    let bytes = c.args.bytes.now in
    let same : c.in-Ok.text.now ≡ bytes = c.in-Ok.ensures.cases.0 in
    let value : json_of bytes ≡ Some (view c.in-Ok-from_str.value) = text_value bytes c.in-Ok.ensures.cases.1 ∙ ap read (sym same) ∙ c.in-Ok-from_str.ensures.ok in
    IfOk-weaker c.read_value.result _ _ (λ j h. short bytes (Some (view c.in-Ok-from_str.value)) c.if-bytes-gt-MAX_JOB_BYTES.false value ∙ h) c.read_value.ensures.job

pub returns-in-Ok-from_str-clause-fault : goal.returns-in-Ok-from_str-clause-fault
returns-in-Ok-from_str-clause-fault c = λ f is.
    let bytes = c.args.bytes.now in
    let same : c.in-Ok.text.now ≡ bytes = c.in-Ok.ensures.cases.0 in
    let value : json_of bytes ≡ Some (view c.in-Ok-from_str.value) = text_value bytes c.in-Ok.ensures.cases.1 ∙ ap read (sym same) ∙ c.in-Ok-from_str.ensures.ok in
    short bytes (Some (view c.in-Ok-from_str.value)) c.if-bytes-gt-MAX_JOB_BYTES.false value ∙ c.read_value.ensures.fault f is
