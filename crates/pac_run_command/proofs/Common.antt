-- The words that proofs here, and those of crates above, import of definitions, of std and of the crates below.

pub use Rattle.pac_run.proofs.Common.{Bool, Err, IsUnwritten, List, None, Ok, Option, Outcome, Result, Resumes, Runs, Some, WriteFault}
pub use Rattle.pac_run.proofs.Common.{Writing, Writings, [], ap, false, inl, inr, option_map, refl, refused_if_there, rules, state_text}
pub use Rattle.pac_run.proofs.Common.{subst, sym, took_if_there, true, writing, ℕ, ◌++◌, ◌∙◌, ◌∷◌, ◌≡◌}
pub use Rattle.pac_run_files.proofs.Common.{AllBegun, FindsFile, FirstUnbegun, Global, Handling, HasIfNamed, HasParts, PartUnread}
pub use Rattle.pac_run_files.proofs.Common.{ReadsFiles, Vec, WantedFile, WantedOutput, begins_by, drafted, lets_go_by, manifest_part_names}
pub use Rattle.pac_run_files.proofs.Common.{played_files, watched_files, ◌||◌}
pub use Rattle.pac_run_options.proofs.Common.{AskedDebug, AskedPlay, AskedRun, Bor}
pub use Rattle.pac_dis.specs.Lines.{disassembly}
unfoldable pub use Rattle.pac_listing.specs.Listing.{listing}
pub use Rattle.pac_run.proofs.Carried.{debugs, resumes, runs}
pub use Rattle.pac_run.proofs.Lent.{Carries, carries, itself, written}
pub use Rattle.pac_run.specs.declared.fault.Output.TheVariants.{Frames, Listing, Wave}
pub use Rattle.pac_run.specs.declared.fault.RunFault.{RunFault}
pub use Rattle.pac_run.specs.declared.inputs.RunInputs.{RunInputs}
pub use Rattle.pac_run_command.specs.Endings.{Ending, IsOfReading}
pub use Rattle.pac_run_command.specs.FailuresProofs.{Opens}
pub use Rattle.pac_run_command.specs.Outputs.{Does, InTurn, IsPerformed, IsRunUncreated, IsSettled, IsWrittenOut, PlaysRun, ReadsAndRuns}
pub use Rattle.pac_run_command.specs.Outputs.{Settles, WatchesRun, by_call, film_output, from_power_on, run_output_files, run_outputs}
pub use Rattle.pac_run_command.specs.Outputs.{state_output}
pub use Rattle.pac_run_command.specs.Programs.{HoldsByAnswer, Performing, PerformsRun, PerformsWatched, RunsOrResumes, performing, watching}
pub use Rattle.pac_run_command.specs.Programs.{writings_of}
pub use Rattle.pac_run_command.specs.RecordedProofs.{RunsGiven, silent_in}
pub use Rattle.pac_run_command.specs.WholeOutputs.{AllElsewhere, AllOutputsAreWhole, EndsInState, EndsWhole, HasLater, HasNewState}
pub use Rattle.pac_run_command.specs.WholeOutputs.{HasNewText, HasPathAlone, IsSome, ReplacesWhole, StatesAreWhole, StaysWhole, WhileBegun}
pub use Rattle.pac_run_command.specs.WholeOutputs.{WhileInTurn, saving}
pub use Rattle.pac_run_command.specs.declared.failure.Failure.{Failure}
pub use Rattle.pac_run_command.specs.declared.failure.Failure.TheVariants.{Memory, Read, Write}
pub use Rattle.pac_run_command.specs.declared.failure.Target.{Target}
pub use Rattle.pac_run_command.specs.declared.failure.Target.TheVariants.{Of}
pub use Rattle.pac_run_command.specs.declared.record.Manner.{Manner}
pub use Rattle.pac_run_command.specs.declared.record.Manner.TheVariants.{Played, Watched}
pub use Rattle.pac_run_files.specs.declared.files.FileKind.TheVariants.{Any}
pub use Rattle.pac_run_files.specs.declared.given.Given.{Given}
pub use Rattle.pac_run_files.specs.declared.given.ReadFault.{ReadFault}
pub use Rattle.pac_run_files.specs.declared.given.ReadFault.TheVariants.{Unreadable}
pub use Rattle.pac_run_files.specs.declared.parts.NamedFile.{NamedFile}
pub use Rattle.std.proofs.Common.{option_to_list, true≢false, ◌⊎◌}
pub use Rattle.std.specs.Prelude.{is_some, option_copied}
