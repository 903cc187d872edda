use Rattle.pac_run_command.proofs.Common.{AllBegun, Settles, inl, inr, refl, rules, run_output_files, subst}
use Rattle.pac_run_command.proofs.Recorded.{silent-in}
use Rattle.pac_run_command.proofs.Unbegun.{uncreated}
use Rattle.pac_run_command.proofs.record.record.Goals as goal

pub returns-in_default-clause-records : goal.returns-in_default-clause-records
returns-in_default-clause-records g c = inr (silent-in c.args.manner refl refl, inr (record { answer_is = refl; unchanged = refl }))

pub returns-clause-records : goal.returns-clause-records
returns-clause-records g c = inl (record {
  inputs = c.inputs_of-inputs.result;
  inputs_are = c.inputs_of-inputs.ensures.inputs c.args.named.now (search rules);
  created = c.in-Ok-begin_outputs.outputs;
  during = c.begin_outputs.new.disk;
  all_begun = subst (λ wanted. AllBegun g.D.FileSystem.handling c.args.disk.now wanted (run_output_files c.in-Ok-begin_outputs.outputs)
      c.begin_outputs.new.disk) c.outputs_of-wanted.ensures c.in-Ok-begin_outputs.ensures;
  left = c.perform-ran.new.outputs;
  ran = c.perform-ran.result;
  performed = c.perform-ran.ensures.performs;
  settled = subst (λ wanted. Settles g.D.FileSystem.handling wanted (run_output_files c.perform-ran.new.outputs) c.begin_outputs.new.disk
      c.perform-ran.result c.settle.result c.settle.new.disk) c.outputs_of-wanted.ensures c.settle.ensures;
})

pub returns-in-Err-clause-records : goal.returns-in-Err-clause-records
returns-in-Err-clause-records g c =
    inr (
      silent-in c.args.manner refl refl,
      inl (uncreated g.D.FileSystem.handling _ _ _ c.args.disk.now c.begin_outputs.new.disk c.outputs_of-wanted.ensures
          c.begin_outputs.result c.in-Err.failure c.in-Err.is c.begin_outputs.ensures),
    )
