use Rattle.dk_num.proofs.ReadsBack.{table_reads, sci_reads}
use Rattle.dk_num.proofs.laws.texts.each_decimal_reads_back.Goals as goal

pub returns-clause-reads_table_text : goal.returns-clause-reads_table_text
returns-clause-reads_table_text c = table_reads

pub returns-clause-reads_sci_text : goal.returns-clause-reads_sci_text
returns-clause-reads_sci_text c = sci_reads
