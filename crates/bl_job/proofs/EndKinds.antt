-- The ways in which a call ends, by the kinds of their statuses.
use Rattle.std.proofs.Common.{◌≡◌, ℕ, List, Option, Some, None, ap, sym, ◌∙◌, subst, inl, inr, map, arith}
use Rattle.std.specs.Prelude.{slice_get, Contains, ◌⊎◌}
use Rattle.std.proofs.lemmas.List.{get_or-map, length-map}
use Rattle.std.proofs.lemmas.Option.{get_or_from_slice_get, slice_get_within}
use Rattle.bl_outside.specs.Faults.{Rose}
use Rattle.bl_outside.specs.Shelf.{ReadFails, WriteFails}
use Rattle.bl_job.specs.Causes.{IsDone, IsKeepFault, IsReadFault, IsRefused, NoFault, UnlessFault}
use Rattle.bl_job.specs.Ends.{Delivers, Ends, PlanFor, all_kept, as_planned, done, no_memory, no_memory_to_keep, not_kept, not_read, refused, usage}
use Rattle.bl_job.specs.Jobs.{IsLawful, Job, KeepsNamed, Plan, ReadsName}
use Rattle.bl_job.specs.Status.{Kind, kind_of, of_deed, of_memory, of_read_fault, of_refusal, of_usage, of_write_fault}
use Rattle.bl_job.specs.Texts.{read_fault_text, write_fault_text}
use Rattle.bl_job.specs.Worlds.{Said, TakenWhole, World, cut, took, whole, with_files}
use Rattle.bl_job.specs.declared.status.Status.{Status}
use Rattle.bl_job.specs.declared.status.Status.TheVariants.{Memory, ReadFault, Usage, WriteFault}

-- an entry's name is one of the names
name_kept : (keeps : List (List ℕ × List ℕ)) (before : ℕ) (keep : List ℕ × List ℕ) → slice_get keeps before ≡ Some keep → Contains (map (λ each. each.0) keeps) keep.0
name_kept keeps before keep e =
    let within = slice_get_within keeps before keep e in (
      before,
      omega (arith, within, length-map keeps (λ (each : List ℕ × List ℕ). each.0)),
      get_or-map (λ (each : List ℕ × List ℕ). each.0) keeps before keep keep.0 within ∙ ap (λ each. each.0) (get_or_from_slice_get keeps before keep keep e),
    )

named_kept : (names : List (List ℕ)) (keeps : List (List ℕ × List ℕ)) → KeepsNamed names keeps → (before : ℕ) (keep : List ℕ × List ℕ) → slice_get keeps before ≡ Some keep → Contains names keep.0
named_kept names keeps (inl same) before keep at_place = subst (λ these. Contains these keep.0) same (name_kept keeps before keep at_place)
named_kept names keeps (inr none) before keep at_place = let nothing = subst (λ these. slice_get these before ≡ Some keep) none at_place in absurd cc

-- a plan that was carried out with no fault
record Carried (plan : Plan) (old new : World) (status : Status) : Type 0 where
  files : new.files ≡ with_files old.files plan.keeps
  no_fault : NoFault old new
  printed : new.sink.taken ≡ took old.sink.taken plan.text
  meant : status ≡ plan.status

module _ {Request : Type 0} (job_of : Request → Job) (laws : (request : Request) → IsLawful (job_of request)) (asked : Option Request) (old new : World) (status : Status) where
  -- a fault, or want of memory
  pub data Fault : Type 0 where
    of_read : IsReadFault job_of asked old new → status ≡ ReadFault → Fault
    of_write : Rose old.sink.faults new.sink.faults ⊎ IsKeepFault job_of asked old new → status ≡ WriteFault → Fault
    full : status ≡ Memory → Fault

  pub data Way : Type 0 where
    no_request : asked ≡ None → status ≡ Usage → NoFault old new → Way
    is_refused : IsRefused job_of asked old new status → NoFault old new → Way
    is_done : IsDone job_of asked old new status → NoFault old new → Way
    faulty : Fault → Way

  pub unless : (meant : Status) → Fault → UnlessFault meant status
  unless meant (of_read f e) = inr (inl e)
  unless meant (of_write f e) = inr (inr (inl e))
  unless meant (full e) = inr (inr (inr e))

  -- a plan was carried out, or a file that it keeps was not kept
  delivered : (plan : Plan) → Delivers plan old new status → (Carried plan old new status → Way)
      → ((before : ℕ) (keep : List ℕ × List ℕ) → slice_get plan.keeps before ≡ Some keep → WriteFails old.faults new.faults keep.0 → TakenWhole (write_fault_text keep.0) old.sink new.sink → status ≡ WriteFault → Way) → Way
  delivered plan (all_kept files faults (whole said meant)) carried fault = carried (record { files = files; no_fault = record { shelf = faults; sink = said.faults }; printed = said.taken; meant = meant })
  delivered plan (all_kept files faults (cut said meant)) carried fault = faulty (of_write (inl said.rose) meant)
  delivered plan (not_kept before keep is fails files (whole said meant)) carried fault = fault before keep is fails said meant
  delivered plan (not_kept before keep is fails files (cut said meant)) carried fault = faulty (of_write (inl said.rose) meant)
  delivered plan (no_memory_to_keep before keep is files faults sink meant) carried fault = faulty (full meant)

  planned : (plan : Plan) → PlanFor job_of asked old.files plan → Delivers plan old new status → Way
  planned _ (usage none) d = delivered _ d (λ c. no_request none c.meant c.no_fault) (λ before keep is. absurd cc)
  planned _ (refused request refusal is first) d =
      delivered _ d
      (λ c. is_refused (record { request = request; refusal = refusal; is_request = is; first = first; meant = c.meant; printed = c.printed; unchanged = c.files }) c.no_fault)
      (λ before keep is. absurd cc)
  planned _ (done request contents plan is read does) d =
      delivered _ d
      (λ c. is_done (record { request = request; contents = contents; plan = plan; is_request = is; read = read; does = does; meant = c.meant; kept = c.files; printed = c.printed }) c.no_fault)
      (λ before keep at_place fails said meant. faulty (of_write (inr (record {
        request = request;
        is_request = is;
        is_kept = subst (Contains (job_of request).keeps) (sym fails.last)
            (named_kept (job_of request).keeps plan.keeps ((laws request).keeps_named contents plan does) before keep at_place);
        fails = subst (WriteFails old.faults new.faults) (sym fails.last) fails;
        printed = said.taken ∙ ap (λ n. took old.sink.taken (write_fault_text n)) (sym fails.last);
      })) meant))

  read_failed : (request : Request) (name : List ℕ) → asked ≡ Some request → ReadsName old.files (job_of request).reads name → ReadFails old.faults new.faults name → Said (read_fault_text name) ReadFault old.sink new.sink status → Way
  read_failed request name is read fails (whole said meant) = faulty (of_read (record {
    request = request;
    is_request = is;
    is_read = subst (ReadsName old.files (job_of request).reads) (sym fails.last) read;
    fails = subst (ReadFails old.faults new.faults) (sym fails.last) fails;
    printed = said.taken ∙ ap (λ n. took old.sink.taken (read_fault_text n)) (sym fails.last);
  }) meant)
  read_failed request name is read fails (cut said meant) = faulty (of_write (inl said.rose) meant)

  pub way : Ends job_of asked old new status → Way
  way (as_planned plan p d) = planned plan p d
  way (not_read request name is read fails files said) = read_failed request name is read fails said
  way (no_memory unchanged e) = faulty (full e)

  -- what a status of a kind says
  abbrev Says : Kind → Type 0
  Says of_deed = IsDone job_of asked old new status
  Says of_usage = asked ≡ None
  Says of_refusal = IsRefused job_of asked old new status
  Says of_read_fault = IsReadFault job_of asked old new
  Says of_write_fault = Rose old.sink.faults new.sink.faults ⊎ IsKeepFault job_of asked old new
  Says of_memory = Unit {0}

  says : (kind : Kind) → kind_of status ≡ kind → Says kind → Says (kind_of status)
  says kind e said = subst Says (sym e) said

  pub says_of_kind : Way → Says (kind_of status)
  says_of_kind (no_request none e quiet) = says of_usage (ap kind_of e) none
  says_of_kind (is_refused r quiet) = says of_refusal (ap kind_of r.meant) r
  says_of_kind (is_done d quiet) = says of_deed (ap kind_of d.meant ∙ (laws d.request).status_of_deed d.contents d.plan d.does) d
  says_of_kind (faulty (of_read f e)) = says of_read_fault (ap kind_of e) f
  says_of_kind (faulty (of_write f e)) = says of_write_fault (ap kind_of e) f
  says_of_kind (faulty (full e)) = says of_memory (ap kind_of e) tt

  -- so a status of a kind says that
  pub said_by : Way → (kind : Kind) → kind_of status ≡ kind → Says kind
  said_by w kind e = subst Says e (says_of_kind w)
