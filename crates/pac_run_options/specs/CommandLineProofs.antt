-- For proofs: what proofs say of the definitions of CommandLine.antt.
use Rattle.pac_run_options.specs.declared.request.Request.TheVariants as request
use Rattle.clap.specs.Words.{Shape, App, Rule, with_rule}
use Rattle.std.specs.Prelude.{[], List, fold, option_map}
use Rattle.pac_run_options.specs.declared.request.AsmFiles.{AsmFiles}
use Rattle.pac_run_options.specs.CommandLine.{AskedAsm, AskedRun, AskedPlay, AskedDebug, Asked, asm, run, debug, dis}
use Rattle.pac_run_options.specs.declared.request.RunFiles.{RunFiles}
use Rattle.pac_run_options.specs.declared.request.PlayFiles.{PlayFiles}
use Rattle.pac_run_options.specs.declared.request.DebugFiles.{DebugFiles}
use Rattle.pac_run_options.specs.declared.request.Request.{Request}

-- a command with no subcommand
abbrev pub app_of_command : Shape → App
app_of_command shape = record { top = shape; subs = [] }

abbrev pub with_rules : List Rule → App → App
with_rules rules app = fold with_rule app rules

abbrev pub told_asm : AsmFiles → AskedAsm
told_asm files = record { source = files.source.now; rom = files.rom.now; listing = files.listing.now }

abbrev pub told_run : RunFiles → AskedRun
told_run files = record {
  set = files.set.now;
  script = files.script.now;
  frames = files.frames.now;
  wave = files.wave.now;
  listing = files.listing.now;
  source = option_map (λ s. s.now) files.source;
  whole = files.whole;
  dip = files.dip;
}

abbrev pub told_play : PlayFiles → AskedPlay
told_play files = record {
  run = told_run files.run;
  load = option_map (λ s. s.now) files.load;
  save = option_map (λ s. s.now) files.save;
}

abbrev pub told_debug : DebugFiles → AskedDebug
told_debug files = record { run = told_run files.run; commands = files.commands.now }

abbrev pub told_request : Request → Asked
told_request (request.Asm files) = asm (told_asm files)
told_request (request.Run files) = run (told_play files)
told_request (request.Debug files) = debug (told_debug files)
told_request (request.Dis file) = dis file.now
