use Rattle.pac_run_command.proofs.Common.{Global, HasParts, Memory, NamedFile, Vec, inl, inr, manifest_part_names, refl}
use Rattle.pac_run_command.proofs.Reading.{unread-reason}
use Rattle.pac_run_command.proofs.Recorded.{silent-in}
use Rattle.pac_run_command.proofs.record.run_given.Goals as goal

pub returns-in_default-clause-runs : goal.returns-in_default-clause-runs
returns-in_default-clause-runs g c = inl (record {
  failure = Memory;
  reason = tt;
  fails = c.tell.ensures.fails;
  unchanged = refl;
  is_silent = silent-in c.args.manner refl refl;
})

pub returns-clause-runs : goal.returns-clause-runs
returns-clause-runs g c =
    inl (record {
      failure = c.read_failure.result;
      reason = unread-reason {A = Vec NamedFile Global}
          (λ parts. HasParts (g.D.FileSystem.finds c.args.disk.now) c.args.files.now.run.set.now (manifest_part_names c.in-Ok.manifest)
          parts.items) _ _ c.in-Err.fault c.read_failure.result (λ name unread. record {
            given = c.args.given.now;
            given_are = c.requires;
            first = rw (← c.deref.ensures.value, ← c.in-Ok.ensures) unread;
          }) c.in-Err.ensures c.read_failure.ensures;
      fails = c.tell-in-Err.ensures.fails;
      unchanged = refl;
      is_silent = silent-in c.args.manner refl refl;
    })

pub returns-in-Ok-read_parts-clause-runs : goal.returns-in-Ok-read_parts-clause-runs
returns-in-Ok-read_parts-clause-runs g c = inr (record {
  given = c.args.given.now;
  parts = c.deref-in-Ok-read_parts.result.now;
  read = record {
    given_are = c.requires;
    parts_are = rw (c.deref-in-Ok-read_parts.ensures.value, ← c.deref.ensures.value, ← c.in-Ok.ensures) c.in-Ok-read_parts.ensures;
  };
  answer = c.record.result;
  records = c.record.ensures.records;
  ends = c.end.ensures.ends;
})
