-- The words of a call as the code keeps them.
use Rattle.std.specs.Prelude.{List, ℕ, map, Option, option_map}
use Rattle.std.specs.Borrow.{Bor}
use Rattle.bl_words.specs.Requests.{Request, GenRequest, HardenRequest, InterpRequest, JoinRequest, LowerRequest, PartRequest, PredictRequest, RunRequest, SpecRequest, TwinRequest, VerifyRequest, Parts, forward, gen, harden, interp, join, lower, part, predict, run, spec, twin, verify}
use Rattle.bl_words.specs.declared.words.GenWords.{GenWords}
use Rattle.bl_words.specs.declared.words.HardenWords.{HardenWords}
use Rattle.bl_words.specs.declared.words.InterpWords.{InterpWords}
use Rattle.bl_words.specs.declared.words.JoinWords.{JoinWords}
use Rattle.bl_words.specs.declared.words.LowerWords.{LowerWords}
use Rattle.bl_words.specs.declared.words.PartWords.{PartWords}
use Rattle.bl_words.specs.declared.words.PredictWords.{PredictWords}
use Rattle.bl_words.specs.declared.words.RunWords.{RunWords}
use Rattle.bl_words.specs.declared.words.SpecWords.{SpecWords}
use Rattle.bl_words.specs.declared.words.TwinWords.{TwinWords}
use Rattle.bl_words.specs.declared.words.VerifyWords.{VerifyWords}
use Rattle.bl_words.specs.declared.words.Request.{Request as RequestWords}
use Rattle.bl_words.specs.declared.words.Request.TheVariants.{Forward, Gen, Harden, Interp, Join, Lower, Part, Predict, Run, Spec, Twin, Verify}

-- the parts that borrowed words are
abbrev pub parts_in : (arguments steps counts : List (Bor (List ℕ))) → Parts
parts_in arguments steps counts = record {
  arguments = map (λ word. word.now) arguments;
  steps_values = map (λ word. word.now) steps;
  counts_values = map (λ word. word.now) counts;
}

-- the text that a borrowed word is, where there is one
abbrev pub text_in : Option (Bor (List ℕ)) → Option (List ℕ)
text_in = option_map (λ word. word.now)

-- the request that borrowed words are
abbrev pub harden_in : HardenWords → HardenRequest
harden_in words = record {
  image = words.image.now;
  certificate = words.certificate.now;
  modules = map (λ word. word.now) words.modules;
  counts = text_in words.counts;
}

abbrev pub lower_in : LowerWords → LowerRequest
lower_in words = record { image = words.image.now; modules = map (λ word. word.now) words.modules }

abbrev pub interp_in : InterpWords → InterpRequest
interp_in words = record {
  export = words.export.now;
  start = words.start.now;
  modules = map (λ word. word.now) words.modules;
  steps = words.steps;
}

abbrev pub run_in : RunWords → RunRequest
run_in words = record {
  image = words.image.now;
  export = words.export.now;
  start = words.start.now;
  steps = words.steps;
  counts = text_in words.counts;
}

abbrev pub spec_in : SpecWords → SpecRequest
spec_in words = record { image = words.image.now; export = words.export.now; trace = words.trace.now; start = words.start.now }

abbrev pub verify_in : VerifyWords → VerifyRequest
verify_in words = record { image = words.image.now; certificate = words.certificate.now }

abbrev pub twin_in : TwinWords → TwinRequest
twin_in words = record {
  image = words.image.now;
  export = words.export.now;
  trace = words.trace.now;
  start = words.start.now;
  other_start = words.other_start.now;
}

abbrev pub predict_in : PredictWords → PredictRequest
predict_in words = record { image = words.image.now; export = words.export.now; trace = words.trace.now; start = words.start.now; steps = words.steps }

abbrev pub part_in : PartWords → PartRequest
part_in words = record { role = words.role; image = words.image.now; iface = words.iface.now; modules = map (λ word. word.now) words.modules }

abbrev pub join_in : JoinWords → JoinRequest
join_in words = record { image = words.image.now; iface = words.iface.now; client = words.client.now; library = words.library.now }

abbrev pub gen_in : GenWords → GenRequest
gen_in words = record { seed = words.seed; size = words.size }

abbrev pub request_in : RequestWords → Request
request_in (Harden words) = harden (harden_in words)
request_in (Lower words) = lower (lower_in words)
request_in (Interp words) = interp (interp_in words)
request_in (Run words) = run (run_in words)
request_in (Spec words) = spec (spec_in words)
request_in (Verify words) = verify (verify_in words)
request_in (Twin words) = twin (twin_in words)
request_in (Forward words) = forward (twin_in words)
request_in (Predict words) = predict (predict_in words)
request_in (Part words) = part (part_in words)
request_in (Join words) = join (join_in words)
request_in (Gen words) = gen (gen_in words)
