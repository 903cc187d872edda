use Rattle.toml.proofs.Views.{table_get}

pub returns : Rattle.pac_roms_manifest.proofs.reading.member.Goals.returns
returns c = table_get c.get.result c.args.key.now c.args.table.now.entries c.get.ensures.value
