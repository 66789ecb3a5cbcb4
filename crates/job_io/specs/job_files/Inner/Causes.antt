-- How the causes of one call's answer are those of the call above it.
use Rattle.gl_base.specs.declared.job_faults.JobFault.{JobFault}
use Rattle.gl_base.specs.declared.memory.OrNoMemory.{OrNoMemory}
use Rattle.gl_base.specs.declared.memory.OrNoMemory.TheVariants as bytes
use Rattle.gl_outside.specs.declared.files.OpenFault.{OpenFault}
use Rattle.gl_outside.specs.declared.files.OpenFault.TheVariants as open_fault
use Rattle.graph_text.specs.declared.lists.Reading.{Reading}
use Rattle.graph_text.specs.declared.lists.Reading.TheVariants as reading
use Rattle.job_io.specs.declared.whole_files.reading.NotRead.{NotRead}
use Rattle.job_io.specs.declared.whole_files.reading.NotRead.TheVariants as file
use Rattle.job_io.specs.declared.job_files.inputs.NoInput.{NoInput}
use Rattle.job_io.specs.declared.job_files.inputs.NoInput.TheVariants as why
use Rattle.job_io.specs.declared.job_files.jobs.NoJob.{NoJob}
use Rattle.job_io.specs.declared.job_files.jobs.NoJob.TheVariants as job

-- a text was not read whose file was not opened
abbrev pub reading_of : OpenFault → Reading
reading_of open_fault.Failed = reading.ReadFault
reading_of open_fault.NoMemory = reading.NoMemory

-- there is no job where its file was not read
abbrev pub no_job_of_file : NotRead → NoJob
no_job_of_file file.ReadFault = job.ReadFault
no_job_of_file file.NoMemory = job.NoMemory

-- nor where its bytes are none
abbrev pub no_job_of_bytes : OrNoMemory JobFault → NoJob
no_job_of_bytes (bytes.Fault fault) = job.Refused fault
no_job_of_bytes bytes.NoMemory = job.NoMemory

-- nothing was read without a job
abbrev pub no_input_of_job : NoJob → NoInput
no_input_of_job (job.Refused fault) = why.BadJob fault
no_input_of_job job.ReadFault = why.ReadFault
no_input_of_job job.NoMemory = why.NoMemory

-- and without a graph
abbrev pub no_input_of_graph : Reading → NoInput
no_input_of_graph (reading.Text fault) = why.BadGraph fault
no_input_of_graph reading.ReadFault = why.ReadFault
no_input_of_graph reading.NoMemory = why.NoMemory

-- and where another file was not read
abbrev pub no_input_of_file : NotRead → NoInput
no_input_of_file file.ReadFault = why.ReadFault
no_input_of_file file.NoMemory = why.NoMemory
